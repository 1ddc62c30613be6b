use Rattle.std.proofs.Common.{subst}
use Rattle.sw_memdisk.specs.Memory.{LeftBy, seen_of}
use Rattle.sw_objsrv.specs.Node.{HandlesWhenMounted}
use Rattle.node_bench.specs.Server.{ServerModel}
use Rattle.node_bench.proofs.server.Server.answer.Goals as goal

pub returns-2 : goal.returns-2
returns-2 c =
    subst (λ (server : ServerModel). HandlesWhenMounted seen_of LeftBy server.cluster c.args.msg.now c.handle.result server.node c.handle.new.self) c.self.view_is c.handle.ensures.handles
