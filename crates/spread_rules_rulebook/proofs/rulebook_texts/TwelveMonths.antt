-- What a text without lines for pairs meant, it means.
use Rattle.std.proofs.Common.{◌≡◌, ◌≢◌, ℕ, zero, suc, inl, inr, Bool, true, List, ◌∷◌, ◌++◌, get_or, replicate, codes, Option, None, Result, Ok, Err, refl, sym, ap, ◌∙◌, arith}
use Rattle.std.specs.Prelude.{◌⊎◌, unwrap_or}
use Rattle.std.proofs.lemmas.List.{append_assoc}
use Rattle.spread_rules_rulebook.specs.Rulebook.{implied}
use Rattle.spread_rules_rulebook.specs.code.Rulebook.{switch_number}
use Rattle.spread_rules_rulebook.specs.RulebookText.{SoFar, no_switches, LineGives, skipped, tick, no_tick, no_line, twice, month, EndGives, none, some, Reads, last, last_fault, more, fault, ReadsRulebook}
use Rattle.spread_rules_rulebook.specs.RulebookTextBeforePairs.{FirstRules, HasNoPairLine, with_all_on, answer_with_all_on, ReadsRulebook as first_ReadsRulebook, SoFar as FirstSoFar, LineGives as FirstGives, skipped as first_skipped, tick as first_tick, no_tick as first_no_tick, no_month as first_no_month, too_many as first_too_many, twice as first_twice, month as first_month, EndGives as FirstEnds, none as first_none, some as first_some, Reads as FirstReads, last as first_last, last_fault as first_last_fault, more as first_more, fault as first_fault}
use Rattle.spread_rules_rulebook.specs.declared.rule_fault.RuleFault.{RuleFault}
use Rattle.spread_rules_rulebook.specs.declared.rule_fault.RuleFault.TheVariants.{TooManyMonths}

-- ---- texts without such lines

no_pair_here : (text line after : List ℕ) → HasNoPairLine text → text ≡ line ++ after → (rest : List ℕ)
    → line ≢ codes "pair " ++ rest
no_pair_here text line after h is rest e = h.first (rest ++ after) (is ∙ ap (λ l. l ++ after) e)

no_pair_after : (text line after : List ℕ) → HasNoPairLine text → text ≡ line ++ 10 ∷ after → HasNoPairLine after
no_pair_after text line after h is = record {
  first = λ rest e. h.later line rest (is ∙ ap (λ l. line ++ 10 ∷ l) e);
  later = λ before rest e. h.later (line ++ 10 ∷ before) rest
      (is ∙ ap (λ l. line ++ 10 ∷ l) e ∙ sym (append_assoc line (10 ∷ before) (10 ∷ (codes "pair " ++ rest))));
}

-- ---- line by line

abbrev unswitched : FirstSoFar → SoFar
unswitched b = record { tick = b.tick; months = b.months; switches = no_switches }

abbrev given : Result FirstSoFar RuleFault → Result SoFar RuleFault
given (Ok b) = Ok (unswitched b)
given (Err f) = Err f

-- a line that is read, or no line for a pair
abbrev Suits : List ℕ → Result FirstSoFar RuleFault → Type 0
Suits line r = ((b : FirstSoFar) × (r ≡ Ok b)) ⊎ ((rest : List ℕ) → line ≢ codes "pair " ++ rest)

not_read : (b : FirstSoFar) (f : RuleFault) → ◌≡◌ {A = Result FirstSoFar RuleFault} (Err f) (Ok b) → ⊥
not_read b f e = absurd cc

line_kept : {n : ℕ} {b : FirstSoFar} {line : List ℕ} {r : Result FirstSoFar RuleFault} → FirstGives n b line r
    → r ≢ Err TooManyMonths → Suits line r → LineGives n (unswitched b) line (given r)
line_kept (first_skipped s) few suits = skipped s
line_kept (first_tick t o i f) few suits = tick t o i f
line_kept (first_no_tick o k h) few suits = no_tick o k h
line_kept (first_no_month t o k h) few (inl read) = absurd (not_read read.0 _ read.1)
line_kept (first_no_month t o k h) few (inr other) = no_line t o k h (λ near far on p. other _ p.text)
line_kept (first_too_many t m o i f l) few suits = absurd (few refl)
line_kept (first_twice t m o i f l d) few suits = twice t m o i f (omega arith) d
line_kept (first_month t m o i f l d) few suits = month t m o i f (omega arith) d

end_kept : {b : FirstSoFar} {a : Result FirstRules RuleFault} → FirstEnds b a
    → EndGives (unswitched b) (answer_with_all_on a)
end_kept (first_none e) = none e
end_kept (first_some t o k) = some t o k

-- ---- a whole text

-- a text that is read, or one without lines for pairs
abbrev SuitsAll : List ℕ → Result FirstRules RuleFault → Type 0
SuitsAll text a = ((r : FirstRules) × (a ≡ Ok r)) ⊎ HasNoPairLine text

ok_is_read : (b : FirstSoFar) → ◌≡◌ {A = Result FirstSoFar RuleFault} (Ok b) (Err TooManyMonths) → ⊥
ok_is_read b e = absurd cc

fault_not_read : (r : FirstRules) (f : RuleFault) → ◌≡◌ {A = Result FirstRules RuleFault} (Err f) (Ok r) → ⊥
fault_not_read r f e = absurd cc

few_lines : (f : RuleFault) → ◌≢◌ {A = Result FirstRules RuleFault} (Err f) (Err TooManyMonths)
    → ◌≢◌ {A = Result FirstSoFar RuleFault} (Err f) (Err TooManyMonths)
few_lines f few e = few (let same : f ≡ TooManyMonths = cc in ap Err same)

text_kept : {n : ℕ} {b : FirstSoFar} {rest : List ℕ} {a : Result FirstRules RuleFault} → FirstReads n b rest a
    → a ≢ Err TooManyMonths → SuitsAll rest a → Reads n (unswitched b) rest (answer_with_all_on a)
text_kept (first_last next l g e) few suits = last (unswitched next) l
    (line_kept g (ok_is_read next) (inl (next, refl))) (end_kept e)
text_kept (first_last_fault f l g) few (inl read) = absurd (fault_not_read read.0 f read.1)
text_kept {rest = rest} (first_last_fault f l g) few (inr free) =
    last_fault f l (line_kept g (few_lines f few) (inr free.first))
text_kept {rest = rest} (first_more line after next i l g r) few (inl read) =
    more line after (unswitched next) i l (line_kept g (ok_is_read next) (inl (next, refl)))
    (text_kept r few (inl read))
text_kept {rest = rest} (first_more line after next i l g r) few (inr free) =
    more line after (unswitched next) i l (line_kept g (ok_is_read next) (inl (next, refl)))
    (text_kept r few (inr (no_pair_after rest line after free i)))
text_kept (first_fault line after f i l g) few (inl read) = absurd (fault_not_read read.0 f read.1)
text_kept {rest = rest} (first_fault line after f i l g) few (inr free) =
    fault line after f i l (line_kept g (few_lines f few) (inr (no_pair_here rest line (10 ∷ after) free i)))

pub kept : (text : List ℕ) (a : Result FirstRules RuleFault) → first_ReadsRulebook text a → a ≢ Err TooManyMonths
    → HasNoPairLine text → ReadsRulebook text (answer_with_all_on a)
kept text a r few free = text_kept r few (inr free)

rules_read : (r : FirstRules) → ◌≡◌ {A = Result FirstRules RuleFault} (Ok r) (Err TooManyMonths) → ⊥
rules_read r e = absurd cc

pub read : (text : List ℕ) (r : FirstRules) → first_ReadsRulebook text (Ok r) → ReadsRulebook text (Ok (with_all_on r))
read text r reads = text_kept reads (rules_read r) (inl (r, refl))

-- ---- all pairs are on

in_replicated : (n k : ℕ) (x : Option Bool) → get_or (replicate n x) k x ≡ x
in_replicated zero k x = refl
in_replicated (suc n) zero x = refl
in_replicated (suc n) (suc k) x = in_replicated n k x

pub all_are_on : (r : FirstRules) (near far : ℕ) → implied (with_all_on r) near far ≡ true
all_are_on r near far = ap (λ (o : Option Bool). unwrap_or o true) (in_replicated 576 (switch_number near far) None)
