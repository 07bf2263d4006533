-- A message's line in its parts.
use Rattle.std.proofs.Common.{◌≡◌, ℕ, ◌+◌, ◌/◌, ◌%◌, ◌<◌, List, [], ◌∷◌, ◌++◌, map, decimal, sym, ap, ◌∙◌, arith, append_assoc}
use Rattle.std.proofs.lemmas.Fmt.{decimal_step, decimal_digit}
use Rattle.std.proofs.lemmas.List.{map-append}
use Rattle.text_messages.specs.Messages.{outgoing_line}
use Rattle.text_messages.specs.code.Messages.{shown_byte}
use Rattle.text_messages.specs.code.LineStart.{start_of_line}

-- the start of a session below 10, and of one of two digits
pub start_of_one : (session d : ℕ) → session ≡ d → d < 10 → 79 ∷ 32 ∷ (48 + d) ∷ 58 ∷ [] ≡ start_of_line session
start_of_one session d is h = sym (ap start_of_line is
    ∙ ap (λ (ds : List ℕ). 79 ∷ 32 ∷ (ds ++ 58 ∷ [])) (decimal_digit d h))

pub start_of_two : (session d : ℕ) → session ≡ 10 + d → d < 10
    → 79 ∷ 32 ∷ 49 ∷ (48 + d) ∷ 58 ∷ [] ≡ start_of_line session
start_of_two session d is h =
    let tens : (10 + d) / 10 ≡ 1 = omega arith in
    let ones : (10 + d) % 10 ≡ d = omega arith in
    let digits : decimal (10 + d) ≡ 49 ∷ (48 + d) ∷ [] =
    decimal_step (10 + d) (omega arith) (omega arith) ∙ (ap (λ (t : ℕ). decimal t ++ (48 + (10 + d) % 10) ∷ []) tens
    ∙ (ap (λ (ds : List ℕ). ds ++ (48 + (10 + d) % 10) ∷ []) (decimal_digit 1 (omega arith))
    ∙ ap (λ (u : ℕ). 49 ∷ (48 + u) ∷ []) ones)) in
    sym (ap start_of_line is ∙ ap (λ (ds : List ℕ). 79 ∷ 32 ∷ (ds ++ 58 ∷ [])) digits)

-- a line is its start, the message and its end
pub line_of_three : (session : ℕ) (message text : List ℕ) → text ≡ start_of_line session
    → outgoing_line session message ≡ text ++ (map shown_byte message ++ 10 ∷ [])
line_of_three session message text is = append_assoc (start_of_line session) (map shown_byte message) (10 ∷ [])
    ∙ ap (λ (t : List ℕ). t ++ (map shown_byte message ++ 10 ∷ [])) (sym is)

-- bytes that stand behind those of a block are shown behind them
pub shown_more : (old new bytes : List ℕ) → new ≡ old ++ bytes → map shown_byte new ≡ map shown_byte old
    ++ map shown_byte bytes
shown_more old new bytes is = ap (λ (t : List ℕ). map shown_byte t) is ∙ map-append shown_byte old bytes
