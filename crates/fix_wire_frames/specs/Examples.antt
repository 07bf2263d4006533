-- Two messages and some values, read: worked examples of the definitions, which the prover checks.
use Rattle.std.specs.Prelude.{◌≡◌, ℕ, pos, negsuc, List, [], ◌∷◌, ◌++◌, length, Some, Ok, Err, refl, codes}
use Rattle.fix_wire_values.specs.declared.values.Unread.TheVariants.{Range}
use Rattle.fix_wire_frames.specs.Texts.{with_soh}
use Rattle.fix_wire_values.specs.Values.{quantity_in, price_in}
use Rattle.fix_wire_frames.specs.declared.frame.TheConstants.{BEGIN_BYTES, CHECKSUM_BYTES}
use Rattle.fix_wire_frames.specs.Fields.{fields_of_body}
use Rattle.fix_wire_frames.specs.Frames.{begin_text, checksum_field, frame_at, frames}
use Rattle.fix_wire_frames.specs.Messages.{fields, kind, number}

abbrev pub logon : List ℕ
logon =
    with_soh (codes "8=FIX.4.2|9=57|35=A|34=1|49=C1|52=20260105-14:30:00|56=HOST|98=0|"
    ++ codes "108=30|10=220|")

abbrev pub order : List ℕ
order =
    with_soh (codes "8=FIX.4.2|9=104|35=D|34=2|49=C1|52=20260105-14:30:00|56=HOST|"
    ++ codes "11=a|21=1|55=H6|54=2|60=20260105-14:30:00|38=5|40=2|44=100|10=168|")

-- the lengths that the code states are those of the texts
pub begin_length_is : length begin_text ≡ BEGIN_BYTES
begin_length_is = refl

pub checksum_length_is : length (checksum_field 220) ≡ CHECKSUM_BYTES
checksum_length_is = refl

pub logon_is : frame_at logon ≡ Some 79
unfolding fields_of_body
logon_is = refl

pub order_is : frame_at order ≡ Some 127
unfolding fields_of_body
order_is = refl

pub kind_is : kind logon ≡ codes "A"
unfolding fields fields_of_body
kind_is = refl

pub number_is : number order ≡ Some 2
unfolding fields fields_of_body
number_is = refl

pub price_is : price_in (codes "0012.340") ≡ Ok (pos 1234)
price_is = refl

pub price2_is : price_in (codes "12.345") ≡ Err Range
price2_is = refl

pub price3_is : price_in (codes "-.5") ≡ Ok (negsuc 49)
price3_is = refl

pub quantity_is : quantity_in (codes "5.") ≡ Ok 5
quantity_is = refl

pub frames_is : frames (codes "8=" ++ logon ++ order) ≡ logon ∷ order ∷ []
unfolding fields_of_body
frames_is = refl
