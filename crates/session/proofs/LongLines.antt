-- A line of which only the first 8,193 bytes are held is answered as the whole line is.
use mathlib.Core.Path.{◌≡◌, refl, sym}
use mathlib.Core.Bool.{Bool, true, false}
use mathlib.Core.List.{List, [], ◌∷◌, ◌++◌}
use Prim.Native.Nat.{ℕ, ◌<◌}
use native.Mathlib.Omega.{arith}
use lib.Dec.{ltb}
use lib.ListN.{length, take, length-append}
use lib.Seq.{take_all, take-append-le, length-take-le}
use borrow.Author.Tests.{ltb-true, ltb-false, lt-leb}
use Rattle.frame_line.specs.Line.{is_frame_line, line_of}
use Rattle.session.specs.Output.{Place, line_call, after}
use Rattle.session.specs.Feeding.{hold}

-- a line of more than 8,192 bytes is no frame line
too_long : (line : List ℕ) → 8192 < length line → is_frame_line line ≡ false
unfolding is_frame_line
too_long line h = rw (lt-leb (length line) 8192 h)

module _ (p : Place) where
  call_same : (a b : List ℕ) → is_frame_line a ≡ false → is_frame_line b ≡ false → line_call p a ≡ line_call p b
  unfolding line_call line_of
  call_same a b e f = rw (e, f) refl

  call-cut : (line : List ℕ) (t : Bool) → ltb (length line) 8193 ≡ t → line_call p (take 8193 line) ≡ line_call p line
  call-cut line true e = rw (take_all 8193 line (let h = ltb-true (length line) 8193 e in omega arith))
  call-cut line false e =
      let h = ltb-false (length line) 8193 e in
      call_same (take 8193 line) line
      (too_long (take 8193 line) (rw (length-take-le 8193 line h) (omega arith)))
      (too_long line (omega arith))

  pub call-held : (line : List ℕ) → line_call p (take 8193 line) ≡ line_call p line
  call-held line = call-cut line (ltb (length line) 8193) refl

  pub after-held : (line : List ℕ) → after p (take 8193 line) ≡ after p line
  unfolding after
  after-held line = rw (call-held line)

-- one byte more
hold-cut : (line : List ℕ) (b : ℕ) (t : Bool) → ltb (length line) 8193 ≡ t → hold (take 8193 line) b ≡ take 8193 (line ++ (b ∷ []))
hold-cut line b true e =
    let h = ltb-true (length line) 8193 e in
    rw (take_all 8193 line (omega arith), e) (sym (take_all 8193 (line ++ (b ∷ [])) (rw (length-append line (b ∷ [])) (omega arith))))
hold-cut line b false e =
    let h = ltb-false (length line) 8193 e in
    rw (length-take-le 8193 line h, take-append-le 8193 line (b ∷ []) h)

pub hold-held : (line : List ℕ) (b : ℕ) → hold (take 8193 line) b ≡ take 8193 (line ++ (b ∷ []))
hold-held line b = hold-cut line b (ltb (length line) 8193) refl
