-- A pass that looks at the table alone: it has learnt that what it knew is sound, and nothing happened.
use Rattle.std.proofs.Common.{◌≡◌, inl, ℕ, Bool, refl, sym, ap, subst, arith}
use Rattle.sw_ring.specs.Cluster.{ClusterModel}
use Rattle.sw_message.specs.declared.message.Msg.{Msg}
use Rattle.sw_message.specs.declared.reply.Reply.TheVariants.{NoMemory}
use Rattle.sw_pass.specs.Known.{history}
use Rattle.sw_pass.specs.Steps.{Knows, learned}
use Rattle.sw_pass.specs.declared.known.Known.{Known}
use Rattle.sw_pass.proofs.Histories.{continues_itself}
use Rattle.sw_cell.specs.Calling.{IsCalled}
use Rattle.sw_cell.specs.Learning.{HasLearnt}

module _ (cluster : ClusterModel) (pass after : Known) (is : after ≡ learned pass) (knows : Knows cluster pass) where
  pub learnt_alone : HasLearnt cluster pass after
  learnt_alone = subst (HasLearnt cluster pass) (sym is) (record {
    grown = record { covers = record { drawn = λ fact has. has; histories = λ slot. continues_itself (history pass.histories slot) }; mark = omega arith; clock = refl; draws = refl };
    sound = knows.sound;
    agree = knows.agree;
  })

  -- so it is as behind a call that wanted memory
  pub called_alone : (slot : ℕ) (tells : Bool) (msg : Msg) → IsCalled cluster tells slot msg NoMemory pass after
  called_alone slot tells msg = record {
    learnt = learnt_alone;
    past = history pass.histories slot;
    later = continues_itself (history pass.histories slot);
    replied = record { middle = history pass.histories slot; mounted = inl refl; latest = ap (λ (known : Known). history known.histories slot) is };
  }
