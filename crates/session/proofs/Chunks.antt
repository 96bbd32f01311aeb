-- Chunks one after the other bring what all their bytes bring at once.
use mathlib.Core.Path.{◌≡◌, refl, sym, ap, ◌∙◌}
use mathlib.Core.List.{List, [], ◌∷◌, ◌++◌, append_assoc, flatten}
use Prim.Native.Nat.{ℕ}
use Rattle.session.specs.Feeding.{State, next, text_of, fed, fed_text, last_text, chunks_text}

pub fed-append : (s : State) (a b : List ℕ) → fed s (a ++ b) ≡ fed (fed s a) b
unfolding fed
fed-append s [] b = refl
fed-append s (x ∷ a) b = fed-append (next s x) a b

pub text-append : (s : State) (a b : List ℕ) → fed_text s (a ++ b) ≡ fed_text s a ++ fed_text (fed s a) b
unfolding fed fed_text
text-append s [] b = refl
text-append s (x ∷ a) b =
    ap (λ (t : List ℕ). text_of s x ++ t) (text-append (next s x) a b) ∙ sym (append_assoc (text_of s x) (fed_text (next s x) a) (fed_text (fed (next s x) a) b))

pub chunks-text : (s : State) (chunks : List (List ℕ)) → chunks_text s chunks ≡ fed_text s (flatten chunks) ++ last_text (fed s (flatten chunks))
unfolding fed fed_text chunks_text flatten
chunks-text s [] = refl
chunks-text s (chunk ∷ chunks) =
    let rest = flatten chunks in
    ap (λ (t : List ℕ). fed_text s chunk ++ t) (chunks-text (fed s chunk) chunks)
    ∙ sym (append_assoc (fed_text s chunk) (fed_text (fed s chunk) rest) (last_text (fed (fed s chunk) rest)))
    ∙ rw (text-append s chunk rest, fed-append s chunk rest)
