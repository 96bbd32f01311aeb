-- What the bytes of a list say of a content detector's settings and of the state that a call is handed.
pub mod Plans
pub mod State
