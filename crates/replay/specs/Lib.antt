-- The generator and the digest of the replays, as compare/README.md states them.
pub mod Generator
pub mod Digest
