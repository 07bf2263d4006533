-- A rulebook's text, judged line by line from the top.
use Rattle.std.specs.Prelude.{◌≡◌, ◌≢◌, ℕ, ◌+◌, ◌*◌, ◌<◌, ◌≤◌, ℤ, Bool, true, false, List, [], ◌∷◌, ◌++◌, map, length, get_or, set, replicate, codes, Option, Some, None, Result, Ok, Err, Contains}
use Rattle.std.specs.Fmt.{signed_decimal}
use Rattle.spread_rules_ids.specs.declared.bytes.TheConstants.{LINE_FEED, NUMBER_SIGN, SPACE}
use Rattle.spread_rules_ids.specs.Cut.{Lacks}
use Rattle.spread_rules_ids.specs.declared.limits.TheConstants as limits
use Rattle.spread_rules_rulebook.specs.Rulebook.{Rules, IsMonth, IsTick}
use Rattle.spread_rules_rulebook.specs.code.Rulebook.{switch_number, switch_of}
use Rattle.spread_rules_rulebook.specs.declared.rulebook.Month.{Month}
use Rattle.spread_rules_rulebook.specs.declared.rule_fault.RuleFault.{RuleFault}
use Rattle.spread_rules_rulebook.specs.declared.rule_fault.RuleFault.TheVariants.{BadLine, NoMonth, TooManyMonths, NamedTwice, NoMemory}

abbrev pub fault_number : RuleFault → ℕ
fault_number (BadLine line) = 1
fault_number NoMonth = 2
fault_number TooManyMonths = 3
fault_number NamedTwice = 4
fault_number NoMemory = 5

-- ---- lines

-- an empty line, or a comment, which begins with `#`
abbrev pub IsSkipped : List ℕ → Type 0
IsSkipped [] = Unit {0}
IsSkipped (b ∷ bytes) = b ≡ NUMBER_SIGN

abbrev pub tick_line : ℤ → List ℕ
tick_line tick = codes "tick " ++ signed_decimal tick

abbrev pub month_line : Month → List ℕ
month_line m = codes "month " ++ m.name ++ SPACE ∷ signed_decimal m.reference

abbrev pub switch_text : Bool → List ℕ
switch_text true = codes "on"
switch_text false = codes "off"

-- the names of the near and the far month, and whether the pair is on
abbrev pub pair_line : List ℕ → List ℕ → Bool → List ℕ
pair_line near far on = codes "pair " ++ near ++ SPACE ∷ (far ++ SPACE ∷ switch_text on)

-- ---- reading

-- what the lines so far say
pub record SoFar : Type 0 where
  pub tick : Option ℤ
  pub months : List Month
  pub switches : List (Option Bool)

-- of each pair of months that a rulebook may have none yet
abbrev pub no_switches : List (Option Bool)
no_switches = replicate (limits.MAX_MONTHS * limits.MAX_MONTHS) None

abbrev pub no_lines : SoFar
no_lines = record { tick = None; months = []; switches = no_switches }

abbrev pub with_tick : ℤ → SoFar → SoFar
with_tick t b = record { tick = Some t; months = b.months; switches = b.switches }

abbrev pub with_month : Month → SoFar → SoFar
with_month m b = record { tick = b.tick; months = b.months ++ m ∷ []; switches = b.switches }

abbrev pub with_switch : ℕ → ℕ → Bool → SoFar → SoFar
with_switch near far on b = record {
  tick = b.tick;
  months = b.months;
  switches = set b.switches (switch_number near far) (Some on);
}

abbrev pub names_in : List Month → List (List ℕ)
names_in months = map (λ m. m.name) months

abbrev pub IsNamed : SoFar → List ℕ → Type 0
IsNamed b name = Contains (names_in b.months) name

-- the line switches the pair of two months that earlier lines name, the near one first
pub record IsPairLine (names : List (List ℕ)) (near far : ℕ) (on : Bool) (line : List ℕ) : Type 0 where
  pub order : near < far
  pub named : far < length names
  pub text : line ≡ pair_line (get_or names near []) (get_or names far []) on

-- what line number n makes of it: the tick line comes first, then a line for each month, and among them and behind them
-- lines for pairs of months
pub data LineGives (n : ℕ) (b : SoFar) (line : List ℕ) : Result SoFar RuleFault → Type 0 where
  skipped : IsSkipped line → LineGives n b line (Ok b)
  tick :
      (t : ℤ) → b.tick ≡ None → line ≡ tick_line t → IsTick t
      → LineGives n b line (Ok (with_tick t b))
  no_tick :
      b.tick ≡ None → (IsSkipped line → ⊥) → ((t : ℤ) → IsTick t → line ≢ tick_line t)
      → LineGives n b line (Err (BadLine n))
  no_line :
      (t : ℤ) → b.tick ≡ Some t → (IsSkipped line → ⊥)
      → ((m : Month) → IsMonth t m → line ≢ month_line m)
      → ((near far : ℕ) (on : Bool) → IsPairLine (names_in b.months) near far on line → ⊥)
      → LineGives n b line (Err (BadLine n))
  too_many :
      (t : ℤ) (m : Month) → b.tick ≡ Some t → line ≡ month_line m → IsMonth t m
      → limits.MAX_MONTHS ≤ length b.months
      → LineGives n b line (Err TooManyMonths)
  twice :
      (t : ℤ) (m : Month) → b.tick ≡ Some t → line ≡ month_line m → IsMonth t m
      → length b.months < limits.MAX_MONTHS → IsNamed b m.name
      → LineGives n b line (Err NamedTwice)
  month :
      (t : ℤ) (m : Month) → b.tick ≡ Some t → line ≡ month_line m → IsMonth t m
      → length b.months < limits.MAX_MONTHS → (IsNamed b m.name → ⊥)
      → LineGives n b line (Ok (with_month m b))
  pair_twice :
      (t : ℤ) (near far : ℕ) (on said : Bool) → b.tick ≡ Some t
      → IsPairLine (names_in b.months) near far on line
      → switch_of b.switches near far ≡ Some said
      → LineGives n b line (Err NamedTwice)
  pair :
      (t : ℤ) (near far : ℕ) (on : Bool) → b.tick ≡ Some t
      → IsPairLine (names_in b.months) near far on line
      → switch_of b.switches near far ≡ None
      → LineGives n b line (Ok (with_switch near far on b))

-- what the end makes of it
pub data EndGives (b : SoFar) : Result Rules RuleFault → Type 0 where
  none : b.months ≡ [] → EndGives b (Err NoMonth)
  some :
      (t : ℤ) → b.tick ≡ Some t → b.months ≢ []
      → EndGives b (Ok (record { tick = t; months = b.months; switches = b.switches }))

-- what reading answers for the text that is left, which begins with line number n; the last line may lack its line end
pub data Reads : ℕ → SoFar → List ℕ → Result Rules RuleFault → Type 0 where
  last :
      {n : ℕ} {b : SoFar} {rest : List ℕ} {answer : Result Rules RuleFault} (next : SoFar)
      → Lacks LINE_FEED rest → LineGives n b rest (Ok next) → EndGives next answer
      → Reads n b rest answer
  last_fault :
      {n : ℕ} {b : SoFar} {rest : List ℕ} (f : RuleFault)
      → Lacks LINE_FEED rest → LineGives n b rest (Err f)
      → Reads n b rest (Err f)
  more :
      {n : ℕ} {b : SoFar} {rest : List ℕ} {answer : Result Rules RuleFault}
      (line after : List ℕ) (next : SoFar)
      → rest ≡ line ++ LINE_FEED ∷ after → Lacks LINE_FEED line → LineGives n b line (Ok next)
      → Reads (n + 1) next after answer
      → Reads n b rest answer
  fault :
      {n : ℕ} {b : SoFar} {rest : List ℕ} (line after : List ℕ) (f : RuleFault)
      → rest ≡ line ++ LINE_FEED ∷ after → Lacks LINE_FEED line → LineGives n b line (Err f)
      → Reads n b rest (Err f)

-- what reading answers for a whole text
abbrev pub ReadsRulebook : List ℕ → Result Rules RuleFault → Type 0
ReadsRulebook text answer = Reads 1 no_lines text answer
