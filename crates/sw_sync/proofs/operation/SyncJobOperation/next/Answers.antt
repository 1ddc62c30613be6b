-- A sync reads its answers, and does what comes next.
use Rattle.sw_sync.proofs.Results.{matched, of_some, on_ok}
use Rattle.sw_sync.proofs.operation.SyncJobOperation.next.Goals as goal

pub returns-clause-hands : goal.returns-clause-hands
returns-clause-hands c = λ begun past stands.
    on_ok c.hand_out.result (λ handed. matched handed (λ none. none) (λ sent may. (may.0.next, may.0.of, may.1)))
    (c.hand_out.ensures.hands begun past (c.read_all.ensures.stands begun past stands))

pub returns-clause-goes_on : goal.returns-clause-goes_on
returns-clause-goes_on c = λ begun past stands. c.hand_out.ensures.goes_on begun past (c.read_all.ensures.stands begun past stands)

pub returns-clause-warranted : goal.returns-clause-warranted
returns-clause-warranted c = λ begun past learnt stands has known.
    on_ok c.hand_out.result (λ handed. of_some handed _ (λ sent may. may.0.warranted learnt known)) (c.hand_out.ensures.hands begun past (c.read_all.ensures.stands begun past stands))
