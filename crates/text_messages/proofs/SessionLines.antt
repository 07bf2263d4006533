-- The outgoing lines of sessions, one after another.
use Rattle.std.proofs.Common.{◌≡◌, ℕ, zero, suc, ◌+◌, ◌<◌, List, [], ◌∷◌, ◌++◌, length, take, get_or, refl, sym, ap, ◌∙◌, arith}
use Rattle.std.proofs.lemmas.List.{append_assoc, append-nil}
use Rattle.text_messages.specs.code.Messages.{session_lines, outgoing_lines_from}

-- one more session's lines
pub sessions_next : (lists : List (List ℕ)) (k i : ℕ) → i < length lists
    → outgoing_lines_from k (take (i + 1) lists) ≡ outgoing_lines_from k (take i lists)
    ++ session_lines (k + i) (get_or lists i [])
sessions_next [] k i h = absurd (omega arith)
sessions_next (bytes ∷ lists) k zero h =
    let e : k ≡ k + 0 = omega arith in
    append-nil (session_lines k bytes) ∙ ap (λ (m : ℕ). session_lines m bytes) e
sessions_next (bytes ∷ lists) k (suc i) h =
    let e : suc i + 1 ≡ suc (i + 1) = omega arith in
    let f : k + 1 + i ≡ k + suc i = omega arith in
    ap (λ (n : ℕ). outgoing_lines_from k (take n (bytes ∷ lists))) e
    ∙ (ap (λ (t : List ℕ). session_lines k bytes ++ t) (sessions_next lists (k + 1) i (omega arith))
    ∙ (sym (append_assoc (session_lines k bytes) (outgoing_lines_from (k + 1) (take i lists))
    (session_lines (k + 1 + i) (get_or lists i [])))
    ∙ ap (λ (m : ℕ). outgoing_lines_from k (take (suc i) (bytes ∷ lists)) ++ session_lines m (get_or lists i [])) f))

-- those of session 0 to i, with the bytes of session i
pub sessions_next_of : (lists : List (List ℕ)) (i : ℕ) (bytes : List ℕ) → bytes ≡ get_or lists i [] → i < length lists
    → outgoing_lines_from 0 (take (i + 1) lists) ≡ outgoing_lines_from 0 (take i lists) ++ session_lines i bytes
sessions_next_of lists i bytes same lt =
    let e : 0 + i ≡ i = omega arith in
    sessions_next lists 0 i lt ∙ ap (λ (t : List ℕ). outgoing_lines_from 0 (take i lists) ++ t)
    (ap (λ (m : ℕ). session_lines m (get_or lists i [])) e ∙ ap (λ (b : List ℕ). session_lines i b) (sym same))

-- the lines of the first sessions stand before those of all others
pub sessions_rest : (lists : List (List ℕ)) (k n : ℕ) → (rest : List ℕ)
    × (outgoing_lines_from k lists ≡ outgoing_lines_from k (take n lists) ++ rest)
sessions_rest lists k zero = (outgoing_lines_from k lists, refl)
sessions_rest [] k (suc n) = ([], refl)
sessions_rest (bytes ∷ lists) k (suc n) =
    let later = sessions_rest lists (k + 1) n in (
      later.0,
      ap (λ (t : List ℕ). session_lines k bytes ++ t) later.1
          ∙ sym (append_assoc (session_lines k bytes) (outgoing_lines_from (k + 1) (take n lists)) later.0),
    )
