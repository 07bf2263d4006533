-- After an order the next number is due.
use Rattle.std.proofs.Common.{◌≡◌, ℕ, ◌+◌, ◌<◌, ◌≤◌, List, [], ◌∷◌, Result, Ok, Err, length, get_or, refl, sym, ap, ◌∙◌, arith}
use Rattle.spread_rules.specs.declared.event.Event.TheVariants as events
use Rattle.spread_rules.specs.declared.event.Ticket.{Ticket}
use Rattle.fix_wire_frames.specs.Messages.{kind}
use Rattle.fix_session_kinds.specs.declared.table.Meaning.TheVariants.{Says}
use Rattle.fix_session_kinds.specs.Table.{◌>>=◌, value_at, new_order, meaning_of_message}
use Rattle.fix_session_kinds.specs.code.ByKind.{meaning_of_kind_text}
use Rattle.fix_session_kinds.proofs.KindOfBytes.{meaning_is}
use Rattle.fix_session_judging.specs.View.{due_after_accepted}

order_due : (n : ℕ) (s : Result (List ℕ) ℕ) (r : Result Ticket ℕ)
    → due_after_accepted n (s >>= λ stamp. (r >>= λ t. Ok (Says (events.New t)))) ≡ n + 1
order_due n (Ok stamp) (Ok t) = refl
order_due n (Ok stamp) (Err e) = refl
order_due n (Err e) r = refl

pub new_due : (text m : List ℕ) (n : ℕ) → text ≡ kind m → 1 ≤ length text → length text < 2 → get_or text 0 0 ≡ 68
    → n + 1 ≡ due_after_accepted n (meaning_of_message m n)
new_due [] m n is some few e = absurd (omega arith)
new_due (b ∷ []) m n is some few e =
    let kind_is : kind m ≡ 68 ∷ [] = sym is ∙ ap (λ k. k ∷ []) e in
    sym (ap (due_after_accepted n) (meaning_is m n) ∙ (ap (λ k. due_after_accepted n (meaning_of_kind_text k m n))
    kind_is ∙ order_due n (value_at 52 m) (new_order m)))
new_due (b ∷ c ∷ cs) m n is some few e = absurd (omega arith)
