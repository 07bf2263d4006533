-- The lines of outgoing messages: each session's frames, SOH shown as `|`.
use Rattle.std.specs.Prelude.{ℕ, ◌==◌, if◌then◌else◌, List, [], ◌∷◌, ◌++◌, map, codes, decimal}
use Rattle.std.specs.declared.vec.Vec.{Vec}
use Rattle.spread_rules_ids.specs.declared.bytes.TheConstants.{LINE_FEED, SOH, VERTICAL_BAR}

-- the lists' bytes, session by session
abbrev pub texts_of : {A : Type 0} → List (Vec ℕ A) → List (List ℕ)
texts_of {A} lists = map (λ (v : Vec ℕ A). v.items) lists

-- `O S:MESSAGE`, each SOH shown as `|`
abbrev pub outgoing_line : ℕ → List ℕ → List ℕ
outgoing_line session message =
    (codes "O " ++ decimal session ++ codes ":")
    ++ map (λ b. if b == SOH then VERTICAL_BAR else b) message ++ LINE_FEED ∷ []
