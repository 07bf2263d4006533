-- A table of the fields of a body.
-- Words of the code alone.
use Rattle.std.specs.Prelude.{Bool, ◌==◌, ◌≡◌, ℕ, ◌<◌, ◌≤◌, if◌then◌else◌, List, [], ◌∷◌, Option, Some, None, get_or, set, true, ◌^◌, length, slice_range}
use Rattle.std.specs.Int.{bit_at}
use Rattle.std.specs.Int.RustNames.{bit_or}
use Rattle.std.specs.List.{position_or_len}
use Rattle.fix_wire_frames.specs.declared.frame.LeadingField.{LeadingField}
use Rattle.fix_wire_frames.specs.declared.table.TheConstants.{PLACES, TABLED_TAGS}
use Rattle.fix_wire_frames.specs.declared.table.FieldPlace.{FieldPlace}
use Rattle.fix_wire_frames.specs.declared.table.FieldTable.{FieldTable}
use Rattle.fix_wire_frames.specs.declared.table.FrameTable.{FrameTable}
use Rattle.fix_wire_frames.specs.declared.tags.TheConstants as tags
use Rattle.fix_wire_frames.specs.Frames.{header, body_at}
use Rattle.fix_wire_frames.specs.code.Scans.{value_of}

-- the tags whose first fields a table has, in order
abbrev pub tabled_tags : List ℕ
tabled_tags =
    tags.BEGIN_SEQ_NO ∷ tags.CL_ORD_ID ∷ tags.END_SEQ_NO ∷ tags.HANDL_INST ∷
    tags.MSG_SEQ_NUM ∷ tags.MSG_TYPE ∷ tags.NEW_SEQ_NO ∷ tags.ORDER_QTY ∷
    tags.ORD_TYPE ∷ tags.ORIG_CL_ORD_ID ∷ tags.POSS_DUP_FLAG ∷ tags.PRICE ∷
    tags.SENDER_COMP_ID ∷ tags.SENDING_TIME ∷ tags.SIDE ∷ tags.SYMBOL ∷
    tags.TARGET_COMP_ID ∷ tags.TIME_IN_FORCE ∷ tags.TRANSACT_TIME ∷ tags.ENCRYPT_METHOD ∷
    tags.HEART_BT_INT ∷ tags.TEST_REQ_ID ∷ tags.GAP_FILL_FLAG ∷ []

abbrev pub is_same : ℕ → ℕ → Bool
is_same tag t = t == tag

-- the index of a tag among them, or their number
abbrev pub index_of : ℕ → ℕ
index_of tag = position_or_len (is_same tag) tabled_tags

abbrev pub nowhere : FieldPlace
nowhere = record { start = 0; end = 0 }

-- the place with this index
abbrev pub place_at : List FieldPlace → ℕ → FieldPlace
place_at places i = get_or places i nowhere

-- the tag with this index has a place
abbrev pub has_place : ℕ → ℕ → Bool
has_place present i = bit_at present i == 1

-- the value that stands at the place with this index, if there is one
abbrev pub value_at : List ℕ → FieldTable → ℕ → Option (List ℕ)
value_at body t i =
    if has_place t.present i
    then Some (slice_range body (place_at t.places i).start (place_at t.places i).end) else None

-- the table, and the place of a field where there was none of its tag
abbrev pub with_field : FieldTable → LeadingField → FieldTable
with_field t f =
    if has_place t.present (index_of f.tag) then t
    else record {
      places = set t.places (index_of f.tag) (record { start = f.start; end = f.end });
      present = bit_or t.present (2 ^ index_of f.tag);
    }

pub record IsWithin (body : List ℕ) (p : FieldPlace) : Type 0 where
  pub order : p.start ≤ p.end
  pub end : p.end ≤ length body

-- Each place is that of the first field of the body with its tag.
pub record IsTable (body : List ℕ) (t : FieldTable) : Type 0 where
  pub size : length t.places ≡ PLACES
  pub within : (i : ℕ) → has_place t.present i ≡ true → IsWithin body (place_at t.places i)
  pub value : (tag : ℕ) → index_of tag < TABLED_TAGS
      → value_at body t (index_of tag) ≡ value_of tag body

-- the header of a text, and the table of the body that it announces
pub record IsTableOf (text : List ℕ) (t : FrameTable) : Type 0 where
  pub header : header text ≡ Some t.header
  pub fields : IsTable (body_at text t.header) t.fields
