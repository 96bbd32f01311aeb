-- A line says a frame exactly where it is a frame line (RULES 11.3).
use mathlib.Core.Path.{◌≡◌, refl}
use mathlib.Core.Bool.{Bool, true, false}
use mathlib.Core.List.{List, [], ◌∷◌}
use Prim.Native.Nat.{ℕ}
use lib.Dec.{leb}
use lib.ListN.{length}
use Rattle.std.specs.Prelude.{is_some}
use Rattle.std.proofs.lemmas.Bool.{false≢true, and_parts}
use Rattle.frame_line.specs.Line.{is_frame_of, fields, is_frame_line, frame_of, line_of}

says : (fs : List (List ℕ)) → is_frame_of fs ≡ true → is_some (frame_of fs) ≡ true
unfolding is_frame_of frame_of
says [] h = absurd (false≢true h)
says (s ∷ []) h = absurd (false≢true h)
says (s ∷ w ∷ []) h = absurd (false≢true h)
says (s ∷ w ∷ v ∷ vs) h = refl

pub frame-told : (line : List ℕ) → is_some (line_of line) ≡ is_frame_line line
unfolding line_of is_frame_line
frame-told line = go (is_frame_line line) refl
  where
    go : (b : Bool) → is_frame_line line ≡ b → is_some (line_of line) ≡ b
    go false h = rw h refl
    go true h = rw h (says (fields line) (and_parts (leb (length line) 8192) (is_frame_of (fields line)) h).1)
