use Rattle.std.proofs.Common.{◌≡◌, ℕ, ◌≤◌, List, [], ◌∷◌, Err, length, ap, ◌∙◌, refl, sym, arith}
use Rattle.fix_session_kinds.specs.code.ByKind.{meaning_of_kind_text}
use Rattle.fix_session_kinds.proofs.KindOfBytes.{meaning_is}
use Rattle.fix_session_kinds.proofs.table.meaning_of_message.Goals as goal

-- a MsgType of two bytes or more is none
longer : (text m : List ℕ) (n : ℕ) → 2 ≤ length text → Err 11 ≡ meaning_of_kind_text text m n
longer [] m n l = absurd (omega arith)
longer (a ∷ []) m n l = absurd (omega arith)
longer (a ∷ b ∷ r) m n l = refl

pub returns-in_default : goal.returns-in_default
returns-in_default c =
    longer c.kind.result.now c.args.message.now.frame.now c.args.number c.in_default.len_at_least
    ∙ ap (λ t. meaning_of_kind_text t c.args.message.now.frame.now c.args.number) c.kind.ensures
    ∙ sym (meaning_is c.args.message.now.frame.now c.args.number)
