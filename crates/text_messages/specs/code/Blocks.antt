-- Bytes on their way to a sink in blocks.
-- Words of the code alone.
use Rattle.std.specs.Prelude.{◌≡◌, ℕ, Bool, true, false, List, ◌++◌, Option, Result, OnOk, OnErr}
use Rattle.std.specs.Io.KnownBytes.{Appends}
use Rattle.spread_rules_ends.specs.Ends.{AppendsPrefix}

-- of this text a front was written, and what is left of it stands in the block
pub record IsPut (old new : Option (List ℕ)) (block text : List ℕ) : Type 0 where
  pub out : List ℕ
  pub written : Appends old new out
  pub all : text ≡ out ++ block

-- what became of a text that a call put behind a block: it was put, and the sink works; or the sink failed, and a front of
-- the text is out
pub record Puts {T E : Type 0}
    (result : Result T E) (old new : Option (List ℕ)) (has_failed : Bool) (block text : List ℕ) : Type 0 where
  pub put : OnOk result (IsPut old new block text)
  pub sound : OnOk result (has_failed ≡ false)
  pub failed : OnErr result (has_failed ≡ true)
  pub front : OnErr result (AppendsPrefix old new text)

-- what became of a text that a call writes: all of it is out, and the sink works; or the sink failed, and a front is out
pub record Writes {T E : Type 0}
    (result : Result T E) (old new : Option (List ℕ)) (has_failed : Bool) (text : List ℕ) : Type 0 where
  pub all : OnOk result (Appends old new text)
  pub sound : OnOk result (has_failed ≡ false)
  pub failed : OnErr result (has_failed ≡ true)
  pub front : OnErr result (AppendsPrefix old new text)
