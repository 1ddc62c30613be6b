use Rattle.std.proofs.Common.{◌≡◌, ℕ, ◌+◌, max, min, Some, true, ap, sym, subst, ◌∙◌, arith}
use Rattle.sw_words.specs.Counts.{last_count}
use Rattle.sw_memdisk.specs.Memory.{LeftBy, MemDiskModel, crashed, seen_of}
use Rattle.sw_objsrv.specs.Node.{HandlesWhenMounted, IsNode}
use Rattle.sw_sim_nodes.specs.Crashing.{cut_of, fused}
use Rattle.sw_sim_nodes.specs.Nodes.{MemNode}
use Rattle.sw_sim_nodes.proofs.Fuses.{due_node, fused_node, used_up}
use Rattle.sw_sim_nodes.proofs.crashing.crash_within.Goals as goal

-- the disk that handles the message has the fuse
has_fuse : (node : MemNode) (calls count : ℕ) (lent disk : MemDiskModel) → lent ≡ node.disk → count ≡ max calls 1 → disk ≡ record lent { last = Some (min (lent.calls + count) last_count) } → record node { disk = disk } ≡ fused calls node
has_fuse node calls count lent disk same least is =
    ap (λ (d : MemDiskModel). record node { disk = d }) (
    is ∙ ap (λ (d : MemDiskModel). record d { last = Some (min (d.calls + count) last_count) }) same
    ∙ ap (λ (n : ℕ). record node.disk { last = Some (min (node.disk.calls + n) last_count) }) least)

pub handle-reply-requires-clause-node : goal.handle-reply-requires-clause-node
handle-reply-requires-clause-node c = subst (IsNode c.args.cluster.now seen_of) (sym (has_fuse c.args.node.now c.args.calls c.max-calls.result c.disk_mut.result.now c.fuse.new.self c.disk_mut.ensures.value c.max-calls.ensures c.fuse.ensures))
    (fused_node c.args.cluster.now c.args.calls c.args.node.now c.requires.node)

pub returns : goal.returns
returns c =
    let between = c.handle-reply.new.self in
    let is : c.lose_power.new.self ≡ record between { disk = crashed c.args.pick between.disk; is_due = true } =
    c.lose_power.ensures ∙ ap (λ (disk : MemDiskModel). record between { disk = disk; is_due = true }) (c.crash.ensures.crashed ∙ ap (crashed c.args.pick) c.disk_mut-2.ensures.value) in
    record {
      reply = c.handle-reply.result;
      between = between;
      handles = subst (λ (old : MemNode). HandlesWhenMounted seen_of LeftBy c.args.cluster.now c.args.msg.now c.handle-reply.result old between)
          (has_fuse c.args.node.now c.args.calls c.max-calls.result c.disk_mut.result.now c.fuse.new.self c.disk_mut.ensures.value c.max-calls.ensures c.fuse.ensures) c.handle-reply.ensures.handles;
      new_is = is;
      is_node = subst (IsNode c.args.cluster.now seen_of) (sym is) (due_node c.args.cluster.now between (crashed c.args.pick between.disk) c.handle-reply.ensures.node);
      cut_is =
          let begun : c.calls-begun.result ≡ c.args.node.now.disk.calls = c.calls-begun.ensures ∙ ap (λ (disk : MemDiskModel). disk.calls) c.disk.ensures in
          let ended : c.calls-ended.result ≡ between.disk.calls = c.calls-ended.ensures ∙ ap (λ (disk : MemDiskModel). disk.calls) c.disk-2.ensures in
          c.is_cut.ensures
          ∙ ap (cut_of c.handle-reply.result) (used_up c.args.node.now.disk.calls c.args.calls between.disk.calls c.saturating_add.result c.calls-ended.result (omega (arith, begun, c.max-calls.ensures, c.saturating_add.ensures)) ended (omega arith));
    }
