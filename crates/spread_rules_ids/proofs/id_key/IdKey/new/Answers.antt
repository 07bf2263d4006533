use Rattle.std.proofs.Common.{◌≡◌, ℕ, ap, ◌∙◌, List, take, drop, length, rules}
use Rattle.std.specs.Int.{w64, from_be_bytes}
use Rattle.spread_rules_ids.specs.IdKeys.{word_of}
use Rattle.spread_rules_ids.proofs.id_key.IdKey.new.Goals as goal

pub returns-clause-key : goal.returns-clause-key
unfolding word_of
returns-clause-key c =
    let at = λ (k : ℕ). ap (λ (bs : List ℕ). from_be_bytes w64 (take 8 (drop k bs))) c.padded-bytes.ensures in
    let first : c.word.result ≡ word_of c.args.id.now 0 = c.word.ensures ∙ at 0 in
    let second : c.word-2.result ≡ word_of c.args.id.now 8 = c.word-2.ensures ∙ at 8 in
    let third : c.word-3.result ≡ word_of c.args.id.now 16 = c.word-3.ensures ∙ at 16 in
    let fourth : c.word-4.result ≡ word_of c.args.id.now 24 = c.word-4.ensures ∙ at 24 in
    let size : length c.bytes-text.result.now ≡ length c.args.id.now =
    ap (λ (bs : List ℕ). length bs) c.bytes-text.ensures.value in
    cc

pub returns-clause-bytes : goal.returns-clause-bytes
returns-clause-bytes c = record { most = search rules; small = search rules }
