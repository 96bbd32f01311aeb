-- A whole line: each way in which it is no frame line, and what a frame line says.
use mathlib.Core.Path.{◌≡◌, refl}
use mathlib.Core.Bool.{true, false, and-false}
use mathlib.Core.List.{List, [], ◌∷◌, map}
use Prim.Native.Nat.{ℕ, ◌*◌, ◌≤◌, ◌<◌}
use borrow.Author.Tests.{le-leb, lt-leb}
use lib.Dec.{leb}
use lib.ListN.{length, take}
use Rattle.std.proofs.Common.{Some, None}
use Rattle.timestamp.specs.declared.Timestamp.{Timestamp}
use Rattle.decimal.specs.Reading.{is_up_to, is_stamp, number, number_read, stamp_read}
use Rattle.decimal.proofs.Numbers.{number-some, number_none, stamp-some, stamp_none}
use Rattle.frame_line.specs.Line.{is_frame_of, fields, is_frame_line, frame_of, luma_of, line_of}
use Rattle.frame_line.proofs.Values.{are_values}

module _ (line : List ℕ) where
  none-of : is_frame_line line ≡ false → None ≡ line_of line
  unfolding line_of
  none-of h = rw h

  pub too_long : 8192 < length line → None ≡ line_of line
  unfolding is_frame_line
  too_long h = none-of (rw (lt-leb (length line) 8192 h))

  not-of : is_frame_of (fields line) ≡ false → None ≡ line_of line
  unfolding is_frame_line
  not-of h = none-of (rw (h, and-false (leb (length line) 8192)))

  -- the tests in their order
  module _ (s : List ℕ) (rest : List (List ℕ)) (e : fields line ≡ s ∷ rest) where
    pub no-stamp : stamp_read s ≡ None → None ≡ line_of line
    unfolding is_frame_of
    no-stamp h = not-of (rw e (stamp-test rest (stamp_none s h)))
      where
        stamp-test : (rest : List (List ℕ)) → is_stamp s ≡ false → is_frame_of (s ∷ rest) ≡ false
        stamp-test [] h = refl
        stamp-test (w ∷ []) h = refl
        stamp-test (w ∷ v ∷ vs) h = rw h

    pub no-second : rest ≡ [] → None ≡ line_of line
    unfolding is_frame_of
    no-second h = not-of (rw (e, h) refl)

  module _ (s w : List ℕ) (rest : List (List ℕ)) (e : fields line ≡ s ∷ w ∷ rest) where
    pub no-width : number_read 4294967295 w ≡ None → None ≡ line_of line
    unfolding is_frame_of
    no-width h = not-of (rw e (width-test rest (number_none 4294967295 w h)))
      where
        width-test : (rest : List (List ℕ)) → is_up_to 4294967295 w ≡ false → is_frame_of (s ∷ w ∷ rest) ≡ false
        width-test [] h = refl
        width-test (v ∷ vs) h = rw (h, and-false (is_stamp s))

    pub no-third : rest ≡ [] → None ≡ line_of line
    unfolding is_frame_of
    no-third h = not-of (rw (e, h) refl)

  pub no-height : (s w h : List ℕ) (vs : List (List ℕ)) → fields line ≡ s ∷ w ∷ h ∷ vs → number_read 4294967295 h ≡ None → None ≡ line_of line
  unfolding is_frame_of
  no-height s w h vs e none = not-of (rw (e, number_none 4294967295 h none, and-false (is_up_to 4294967295 w), and-false (is_stamp s)))

  -- the stamp and the sides of a line, as they were read, and the fields after them
  pub record Head (t : Timestamp) (a b : ℕ) (vs : List (List ℕ)) : Type 0 where
    pub stamp : List ℕ
    pub width : List ℕ
    pub height : List ℕ
    pub split : fields line ≡ stamp ∷ width ∷ height ∷ vs
    pub time : stamp_read stamp ≡ Some t
    pub across : number_read 4294967295 width ≡ Some a
    pub down : number_read 4294967295 height ≡ Some b

  module _ (t : Timestamp) (a b : ℕ) (vs : List (List ℕ)) (H : Head t a b vs) where
    pub no-pixels : 1024 < a * b → None ≡ line_of line
    unfolding is_frame_of
    no-pixels more =
        let w = number-some _ a H.width H.across in
        let h = number-some _ b H.height H.down in
        not-of
        (rw (H.split, w.1, h.1, lt-leb (a * b) 1024 more, and-false (is_up_to 4294967295 H.height), and-false (is_up_to 4294967295 H.width), and-false (is_stamp H.stamp)))

    pub no-values : are_values (a * b) vs ≡ false → None ≡ line_of line
    unfolding is_frame_of
    no-values bad =
        let w = number-some _ a H.width H.across in
        let h = number-some _ b H.height H.down in
        not-of
        (rw (H.split, w.1, h.1, bad, and-false (leb (a * b) 1024), and-false (is_up_to 4294967295 H.height), and-false (is_up_to 4294967295 H.width), and-false (is_stamp H.stamp)))

    pub says-frame : length line ≤ 8192 → a * b ≤ 1024 → are_values (a * b) vs ≡ true → Some (record { stamp = t; width = a; height = b }) ≡ line_of line
    unfolding is_frame_line is_frame_of line_of frame_of
    says-frame short pixels values =
        let s = stamp-some H.stamp t H.time in
        let w = number-some _ a H.width H.across in
        let h = number-some _ b H.height H.down in
        rw (H.split, le-leb (length line) 8192 short, s.0, w.0, h.0, w.1, h.1, le-leb (a * b) 1024 pixels, values, s.1)

    pub says-luma : (luma : List ℕ) → take (a * b) luma ≡ map number vs → take (a * b) luma ≡ luma_of (fields line)
    unfolding luma_of
    says-luma luma same = rw H.split same
