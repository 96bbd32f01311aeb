-- With room for a line, each turn takes some bytes of the rest of the chunk.
use mathlib.Core.Path.{◌≡◌, refl}
use mathlib.Core.List.{List}
use Prim.Native.Nat.{ℕ, ◌+◌, ◌-◌, ◌≤◌, ◌<◌}
use native.Mathlib.Omega.{arith}
use lib.ListN.{length, take, drop}
use Rattle.session.specs.Feeding.{State, fed}
use Rattle.session.specs.Sessions.{state_of}
use Rattle.session.specs.Promises.{Feeds, Filled}
use Rattle.session.proofs.Feeding.{part-size, feeds-some, fed_then}
use Rattle.cuts.proofs.feed_chunk.Goals as goal

-- what a turn leaves that begins after the first a bytes
record Turn (s : State) (chunk : List ℕ) (s' : State) (a t : ℕ) : Type 0 where
  within : a + t ≤ length chunk
  some : 0 < t
  state : s' ≡ fed s (take (a + t) chunk)

turn : (s s' s'' : State) (chunk : List ℕ) {out out' : List ℕ} (a : ℕ) {t w : ℕ} → s' ≡ fed s (take a chunk) → let rest = take (length chunk - a) (drop a chunk) in
    Feeds s' rest out 0 s'' out' t w → Filled rest out 0 t w → 64 ≤ length out → a < length chunk → Turn s chunk s'' a t
turn s s' s'' chunk {out} {out'} a {t} {w} before f g room more =
    let size = part-size a (length chunk) chunk (omega arith) in
    record {
      within = omega (arith, f.within);
      some = feeds-some s' s'' (take (length chunk - a) (drop a chunk)) out out' t w f g room (omega arith);
      state = fed_then s s' s'' chunk a (length chunk - a) t before f.within f.state;
    }

pub loop-taken-init : goal.loop-taken-init
unfolding fed
loop-taken-init g c = (omega arith, refl)

pub loop-taken-smaller : goal.loop-taken-smaller
loop-taken-smaller g c =
    let v = c.loop-taken.invariant in
    let f = c.feed-f in
    let t =
    turn (state_of c.args.session.now) (state_of c.loop-taken.session) (state_of f.new.self) c.args.chunk.now c.loop-taken.taken
    v.1 f.ensures.feeds f.ensures.filled (omega arith) c.loop-taken-test.true
    in
    omega (arith, t.within, t.some)

pub loop-taken-preserved : goal.loop-taken-preserved
loop-taken-preserved g c =
    let v = c.loop-taken.invariant in
    let f = c.feed-f in
    let t =
    turn (state_of c.args.session.now) (state_of c.loop-taken.session) (state_of f.new.self) c.args.chunk.now c.loop-taken.taken
    v.1 f.ensures.feeds f.ensures.filled (omega arith) c.loop-taken-test.true
    in
    (t.within, t.state)
