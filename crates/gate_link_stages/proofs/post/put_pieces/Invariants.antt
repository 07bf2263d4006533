use Rattle.std.proofs.Common.{◌≡◌, ℕ, ◌-◌, ◌≤◌, ◌<◌, ◌*◌, true, false, take, length}
use Rattle.gate_link_stages.specs.Marks.{ends}
use Rattle.gate_link_stages.specs.Pieces.{bytes_in, is_mark}
use Rattle.gate_link_stages.specs.declared.post.TheConstants.{POSTED_BYTES, MAX_POSTED_PIECES}
use Rattle.gate_link_stages.proofs.post.put_pieces.Given as goal

abbrev pub invariant-loop-done : goal.invariant-loop-done
invariant-loop-done l = record {
  long : length l.pieces ≡ MAX_POSTED_PIECES;
  within : l.done ≤ length l.bytes;
  level : l.done < length l.bytes → l.done ≡ l.count * POSTED_BYTES;
  few : (k : ℕ) → length l.bytes ≤ k * POSTED_BYTES → l.count ≤ k;
  gave : bytes_in (take l.count l.pieces) ≡ take l.done l.bytes;
  plain : ends is_mark (take l.count l.pieces) false ≡ true;
}

abbrev pub decreases-loop-done : goal.decreases-loop-done
decreases-loop-done l = length l.bytes - l.done
