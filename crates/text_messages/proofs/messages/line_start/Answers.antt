use Rattle.std.proofs.Common.{◌≡◌, refl, arith}
use Rattle.text_messages.proofs.LinesInParts.{start_of_one, start_of_two}
use Rattle.text_messages.proofs.messages.line_start.Goals as goal

pub returns-in-0 : goal.returns-in-0
returns-in-0 c = record { text = start_of_one c.args.session 0 c.in-0.is (omega arith); shown = refl }

pub returns-in-1 : goal.returns-in-1
returns-in-1 c = record { text = start_of_one c.args.session 1 c.in-1.is (omega arith); shown = refl }

pub returns-in-2 : goal.returns-in-2
returns-in-2 c = record { text = start_of_one c.args.session 2 c.in-2.is (omega arith); shown = refl }

pub returns-in-3 : goal.returns-in-3
returns-in-3 c = record { text = start_of_one c.args.session 3 c.in-3.is (omega arith); shown = refl }

pub returns-in-4 : goal.returns-in-4
returns-in-4 c = record { text = start_of_one c.args.session 4 c.in-4.is (omega arith); shown = refl }

pub returns-in-5 : goal.returns-in-5
returns-in-5 c = record { text = start_of_one c.args.session 5 c.in-5.is (omega arith); shown = refl }

pub returns-in-6 : goal.returns-in-6
returns-in-6 c = record { text = start_of_one c.args.session 6 c.in-6.is (omega arith); shown = refl }

pub returns-in-7 : goal.returns-in-7
returns-in-7 c = record { text = start_of_one c.args.session 7 c.in-7.is (omega arith); shown = refl }

pub returns-in-8 : goal.returns-in-8
returns-in-8 c = record { text = start_of_one c.args.session 8 c.in-8.is (omega arith); shown = refl }

pub returns-in-9 : goal.returns-in-9
returns-in-9 c = record { text = start_of_one c.args.session 9 c.in-9.is (omega arith); shown = refl }

pub returns-in-10 : goal.returns-in-10
returns-in-10 c = record { text = start_of_two c.args.session 0 c.in-10.is (omega arith); shown = refl }

pub returns-in-11 : goal.returns-in-11
returns-in-11 c = record { text = start_of_two c.args.session 1 c.in-11.is (omega arith); shown = refl }

pub returns-in-12 : goal.returns-in-12
returns-in-12 c = record { text = start_of_two c.args.session 2 c.in-12.is (omega arith); shown = refl }

pub returns-in-13 : goal.returns-in-13
returns-in-13 c = record { text = start_of_two c.args.session 3 c.in-13.is (omega arith); shown = refl }

pub returns-in-14 : goal.returns-in-14
returns-in-14 c = record { text = start_of_two c.args.session 4 c.in-14.is (omega arith); shown = refl }

pub returns-in_default : goal.returns-in_default
returns-in_default c = let last : c.args.session ≡ 15 = omega arith in
    record { text = start_of_two c.args.session 5 last (omega arith); shown = refl }
