use Rattle.std.proofs.Common.{◌≡◌, ◌∙◌, ◌==◌, ◌&&◌, Bool, true, false, sym, ap, arith}
use Rattle.std.proofs.lemmas.Bool.Decides.{nat_tests}
use Rattle.spread_books_queues.specs.declared.queue_rank.QueueRank.{QueueRank}
use Rattle.spread_books_queues.specs.QueueRanks.{queue_of, rank_of, is_rank}
use Rattle.spread_books_queues.proofs.queue_heaps.is_of_rank.Goals as goal

pub returns-then-queue_number-queue : goal.returns-then-queue_number-queue
returns-then-queue_number-queue c =
    let o = c.args.order.now in
    let number = c.queue_number.ensures.number in
    let test = c.if-queue_number-queue.true in
    let here : (queue_of o == c.args.queue) ≡ true = grind (arith, nat_tests, number, test) in
    let same : is_rank (rank_of o) c.args.rank.now ≡ c.is.result =
    ap (λ (x : QueueRank). is_rank x c.args.rank.now) (sym c.new.ensures) ∙ sym c.is.ensures in
    sym (ap (λ (b : Bool). b && is_rank (rank_of o) c.args.rank.now) here ∙ same)

pub returns-else-queue_number-queue : goal.returns-else-queue_number-queue
returns-else-queue_number-queue c =
    let o = c.args.order.now in
    let number = c.queue_number.ensures.number in
    let test = c.if-queue_number-queue.false in
    let here : (queue_of o == c.args.queue) ≡ false = grind (arith, nat_tests, number, test) in
    let asked : (c.queue_number.result == c.args.queue) ≡ false = grind (arith, nat_tests, test) in
    asked ∙ sym (ap (λ (b : Bool). b && is_rank (rank_of o) c.args.rank.now) here)
