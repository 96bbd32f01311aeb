use Rattle.std.proofs.Common.{◌≡◌, refl, Bool, List, ℕ, ◌+◌, add-one, arith}
use Rattle.replay_filter.specs.declared.Run.{Run}
use Rattle.replay_filter.specs.Lists.{outcome_of, run_after, calls_of, list_of}
use Rattle.replay_filter.proofs.list.Goals as goal

-- one call more
run_more : (wide : Bool) (first run next : Run) (store : List ℕ) (n : ℕ) → run ≡ (calls_of wide first n).run → store ≡ (calls_of wide first n).store
    → next ≡ run_after wide run (outcome_of wide run store) → next ≡ (calls_of wide first (n + 1)).run
unfolding calls_of
run_more wide first run next store n e f g = rw (g, e, f, add-one n) refl

store-more : (wide : Bool) (first run : Run) (store next : List ℕ) (n : ℕ) → run ≡ (calls_of wide first n).run → store ≡ (calls_of wide first n).store
    → next ≡ (outcome_of wide run store).store → next ≡ (calls_of wide first (n + 1)).store
unfolding calls_of
store-more wide first run store next n e f g = rw (g, e, f, add-one n) refl

pub loop-init : goal.loop-init
unfolding calls_of
loop-init c = (c.opened-run.ensures.place_bound, (refl, c.new-memory.ensures))

pub loop-preserved : goal.loop-preserved
loop-preserved c =
    let a = c.call-run in
    let i = c.loop.invariant.1 in
    (a.ensures.place_bound, (run_more _ _ _ _ _ _ i.0 i.1 a.ensures.value, store-more _ _ _ _ _ _ i.0 i.1 a.ensures.store_after))

pub returns : goal.returns
unfolding list_of
returns c =
    let e : c.loop.counter ≡ 24 = omega arith in
    rw (c.loop.invariant.1.0, e, c.opened-run.ensures.value) refl
