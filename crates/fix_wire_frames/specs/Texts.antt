-- Bytes of FIX, and texts that begin alike.
use Rattle.std.specs.Prelude.{ℕ, ◌&&◌, ◌==◌, if◌then◌else◌, List, [], ◌∷◌, map}
use Rattle.spread_rules_ids.specs.declared.bytes.TheConstants.{SOH, VERTICAL_BAR}

-- a text in which each `|` stands for SOH, which no character shows
abbrev pub with_soh : List ℕ → List ℕ
with_soh text = map (λ b. if b == VERTICAL_BAR then SOH else b) text
