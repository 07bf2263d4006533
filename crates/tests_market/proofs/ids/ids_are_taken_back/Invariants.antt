use Rattle.spread_books_ids.specs.Tables.{IsTableOf}
use Rattle.tests_market.proofs.ids.ids_are_taken_back.Given as goal

abbrev pub invariant-loop-n : goal.invariant-loop-n
invariant-loop-n g l = record { table : IsTableOf l.table l.keys.items }
