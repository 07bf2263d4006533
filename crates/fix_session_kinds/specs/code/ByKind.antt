-- What a message means by the bytes of its kind.
-- Words of the code alone.
use Rattle.std.specs.Prelude.{ℕ, ◌==◌, List, [], ◌∷◌, Option, Result, Err, ok_or}
use Rattle.spread_rules.specs.declared.codes.session_reject_reason.TheConstants as reject
use Rattle.fix_session_kinds.specs.declared.table.Meaning.{Meaning}
use Rattle.fix_session_kinds.specs.Table.{◌>>=◌, meaning_by}
use Rattle.fix_session_kinds.specs.code.Readers.{stamped}

-- what was said by a kind, if it is known and SendingTime stands
abbrev pub known : Option (Result Meaning ℕ) → List ℕ → Result Meaning ℕ
known said m = ok_or said reject.INVALID_MSG_TYPE >>= λ r. stamped m r

-- a kind of one byte
abbrev pub meaning_of_kind : ℕ → List ℕ → ℕ → Result Meaning ℕ
meaning_of_kind k m n = known (meaning_by (λ type. k == type) m n) m

-- a kind of so many bytes
abbrev pub meaning_of_kind_text : List ℕ → List ℕ → ℕ → Result Meaning ℕ
meaning_of_kind_text [] m n = Err reject.TAG_WITHOUT_VALUE
meaning_of_kind_text (k ∷ []) m n = meaning_of_kind k m n
meaning_of_kind_text (k ∷ l ∷ ks) m n = Err reject.INVALID_MSG_TYPE
