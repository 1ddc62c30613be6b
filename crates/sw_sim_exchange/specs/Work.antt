-- How many deliveries and give-ups remain to be done at most.
use Rattle.std.specs.Prelude.{ℕ, ◌+◌, ◌*◌, Bool, if◌then◌else◌, Option, Some, None, sum_by}
use Rattle.std.specs.List.{count_by}
use Rattle.sw_operation.specs.Standing.{left}
use Rattle.sw_operation.specs.declared.any_op.AnyOp.{AnyOp}
use Rattle.sw_sim_exchange.specs.Exchange.{ExchangeModel}
use Rattle.sw_sim_exchange.specs.declared.letter.Content.{Content}
use Rattle.sw_sim_exchange.specs.declared.letter.Content.TheVariants as content
use Rattle.sw_sim_exchange.specs.declared.letter.Letter.{Letter}
use Rattle.sw_sim_exchange.specs.declared.operating.Operating.{Operating}

-- two deliveries for a request and the reply to it, and one for a reply
abbrev pub weight_in : Content → ℕ
weight_in (content.Request msg) = 2
weight_in (content.Answer reply) = 1

abbrev pub weight_of : Letter → ℕ
weight_of letter = if letter.is_delivered then 0 else weight_in letter.content

abbrev pub left_in : Option AnyOp → ℕ
left_in None = 0
left_in (Some op) = left op

-- each message that an operation hands out yet: it is open, and delivered, as is the reply; and those that are open
abbrev pub work_in : Operating → ℕ
work_in kept = 4 * left_in kept.op + count_by (λ (is_open : Bool). is_open) kept.tickets

-- so many deliveries and give-ups are done at most
abbrev pub work_of : ExchangeModel → ℕ
work_of exchange = sum_by weight_of exchange.letters + sum_by work_in exchange.operations
