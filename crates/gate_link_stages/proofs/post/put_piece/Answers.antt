use Rattle.std.proofs.Common.{refl, subst, length, ◌/◌, ◌<◌, ◌≡◌, List, ℕ, get_or}
use Rattle.gate_link_stages.proofs.Pieces.{whole_piece}
use Rattle.gate_link_stages.specs.declared.post.TheConstants.{POSTED_BYTES}
use Rattle.gate_link_stages.proofs.post.put_piece.Goals as goal

pub returns-in-Some-clause-bytes : goal.returns-in-Some-clause-bytes
returns-in-Some-clause-bytes c =
    let bytes = c.args.bytes.now in
    let chunk = c.in-Some.whole.now in
    let found = c.in-Some.ensures.item in
    let some = subst (λ (xs : List (List ℕ)). 0 < length xs) c.as_chunks.ensures.front found.3.0 in
    let is = found.1 in
    whole_piece POSTED_BYTES (length bytes / POSTED_BYTES) bytes chunk refl c.requires some
    (subst (λ (xs : List (List ℕ)). chunk ≡ get_or xs 0 chunk) c.as_chunks.ensures.front is)
