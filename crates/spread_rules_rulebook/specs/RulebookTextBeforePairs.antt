-- What a rulebook's text meant before pairs of months could be switched, when a rulebook had at most twelve months: what
-- changed since, as it stood. Only a law speaks of it.
use Rattle.std.specs.Prelude.{◌≡◌, ◌≢◌, ℕ, ◌+◌, ◌<◌, ◌≤◌, ℤ, List, [], ◌∷◌, ◌++◌, map, length, codes, Option, Some, None, Result, Ok, Err, Contains}
use Rattle.spread_rules_ids.specs.declared.bytes.TheConstants.{LINE_FEED}
use Rattle.spread_rules_ids.specs.Cut.{Lacks}
use Rattle.spread_rules_rulebook.specs.Rulebook.{Rules, IsMonth, IsTick}
use Rattle.spread_rules_rulebook.specs.RulebookText.{IsSkipped, tick_line, month_line, no_switches}
use Rattle.spread_rules_rulebook.specs.declared.rulebook.Month.{Month}
use Rattle.spread_rules_rulebook.specs.declared.rule_fault.RuleFault.{RuleFault}
use Rattle.spread_rules_rulebook.specs.declared.rule_fault.RuleFault.TheVariants.{BadLine, NoMonth, TooManyMonths, NamedTwice}

pub record FirstRules : Type 0 where
  pub tick : ℤ
  pub months : List Month

-- what the lines so far say
pub record SoFar : Type 0 where
  pub tick : Option ℤ
  pub months : List Month

abbrev pub no_lines : SoFar
no_lines = record { tick = None; months = [] }

abbrev pub with_tick : ℤ → SoFar → SoFar
with_tick t b = record { tick = Some t; months = b.months }

abbrev pub with_month : Month → SoFar → SoFar
with_month m b = record { tick = b.tick; months = b.months ++ m ∷ [] }

abbrev pub IsNamed : SoFar → List ℕ → Type 0
IsNamed b name = Contains (map (λ m. m.name) b.months) name

-- what line number n makes of it: the tick line comes first, then a line for each month
pub data LineGives (n : ℕ) (b : SoFar) (line : List ℕ) : Result SoFar RuleFault → Type 0 where
  skipped : IsSkipped line → LineGives n b line (Ok b)
  tick :
      (t : ℤ) → b.tick ≡ None → line ≡ tick_line t → IsTick t
      → LineGives n b line (Ok (with_tick t b))
  no_tick :
      b.tick ≡ None → (IsSkipped line → ⊥) → ((t : ℤ) → IsTick t → line ≢ tick_line t)
      → LineGives n b line (Err (BadLine n))
  no_month :
      (t : ℤ) → b.tick ≡ Some t → (IsSkipped line → ⊥)
      → ((m : Month) → IsMonth t m → line ≢ month_line m)
      → LineGives n b line (Err (BadLine n))
  too_many :
      (t : ℤ) (m : Month) → b.tick ≡ Some t → line ≡ month_line m → IsMonth t m
      → 12 ≤ length b.months
      → LineGives n b line (Err TooManyMonths)
  twice :
      (t : ℤ) (m : Month) → b.tick ≡ Some t → line ≡ month_line m → IsMonth t m
      → length b.months < 12 → IsNamed b m.name
      → LineGives n b line (Err NamedTwice)
  month :
      (t : ℤ) (m : Month) → b.tick ≡ Some t → line ≡ month_line m → IsMonth t m
      → length b.months < 12 → (IsNamed b m.name → ⊥)
      → LineGives n b line (Ok (with_month m b))

-- what the end makes of it
pub data EndGives (b : SoFar) : Result FirstRules RuleFault → Type 0 where
  none : b.months ≡ [] → EndGives b (Err NoMonth)
  some :
      (t : ℤ) → b.tick ≡ Some t → b.months ≢ []
      → EndGives b (Ok (record { tick = t; months = b.months }))

-- what reading answers for the text that is left, which begins with line number n; the last line may lack its line end
pub data Reads : ℕ → SoFar → List ℕ → Result FirstRules RuleFault → Type 0 where
  last :
      {n : ℕ} {b : SoFar} {rest : List ℕ} {answer : Result FirstRules RuleFault} (next : SoFar)
      → Lacks LINE_FEED rest → LineGives n b rest (Ok next) → EndGives next answer
      → Reads n b rest answer
  last_fault :
      {n : ℕ} {b : SoFar} {rest : List ℕ} (f : RuleFault)
      → Lacks LINE_FEED rest → LineGives n b rest (Err f)
      → Reads n b rest (Err f)
  more :
      {n : ℕ} {b : SoFar} {rest : List ℕ} {answer : Result FirstRules RuleFault}
      (line after : List ℕ) (next : SoFar)
      → rest ≡ line ++ LINE_FEED ∷ after → Lacks LINE_FEED line → LineGives n b line (Ok next)
      → Reads (n + 1) next after answer
      → Reads n b rest answer
  fault :
      {n : ℕ} {b : SoFar} {rest : List ℕ} (line after : List ℕ) (f : RuleFault)
      → rest ≡ line ++ LINE_FEED ∷ after → Lacks LINE_FEED line → LineGives n b line (Err f)
      → Reads n b rest (Err f)

-- what reading answers for a whole text
abbrev pub ReadsRulebook : List ℕ → Result FirstRules RuleFault → Type 0
ReadsRulebook text answer = Reads 1 no_lines text answer

-- ---- what it means now

-- no line of the text begins as one for a pair does
pub record HasNoPairLine (text : List ℕ) : Type 0 where
  pub first : (rest : List ℕ) → text ≢ codes "pair " ++ rest
  pub later : (before rest : List ℕ) → text ≢ before ++ LINE_FEED ∷ (codes "pair " ++ rest)

-- the rulebook in which no pair is switched
abbrev pub with_all_on : FirstRules → Rules
with_all_on r = record { tick = r.tick; months = r.months; switches = no_switches }

abbrev pub answer_with_all_on : Result FirstRules RuleFault → Result Rules RuleFault
answer_with_all_on (Ok r) = Ok (with_all_on r)
answer_with_all_on (Err f) = Err f
