-- What a story tells to be acknowledged is kept.
use Rattle.std.proofs.Common.{◌≡◌, ℕ, Bool, List, Some, sym, subst, ◌∙◌}
use Rattle.std.proofs.lemmas.Option.{same_Some}
use Rattle.sw_types.specs.Name.{NameModel}
use Rattle.sw_ring.specs.Cluster.{ClusterModel}
use Rattle.sw_message.specs.Transcript as transcript
use Rattle.sw_delete.specs.Delete as deletes
use Rattle.sw_delete.specs.declared.end.DeleteEnd.TheVariants.{Deleted}
use Rattle.sw_delete.proofs.Ends as deleted
use Rattle.sw_get.specs.Get as gets
use Rattle.sw_get.specs.declared.end.GetEnd.{GetEnd}
use Rattle.sw_put.specs.Put as puts
use Rattle.sw_put.specs.declared.end.PutEnd.TheVariants.{Created}
use Rattle.sw_put.proofs.Ends as created
use Rattle.sw_core.specs.Event.{Event, IsRun}
use Rattle.sw_operation.specs.Operating.{Begun, Get, Head, IsGetOf}
use Rattle.sw_core.specs.World.{Operating}
use Rattle.sw_operation.specs.Ends.{IsEndOf}
use Rattle.sw_law_headline.specs.Headline.{EndsLater, IsAfterDelete, IsAfterPut}
use Rattle.sw_law_headline.proofs.NeverOlder.{never_older}
use Rattle.sw_law_headline.proofs.Shows.{shows}
use Rattle.sw_law_headline.proofs.StaysDeleted.{stays_deleted}
use Rattle.sw_operation.specs.declared.end.OpEnd.{OpEnd}
use Rattle.sw_operation.specs.declared.end.OpEnd.TheVariants as end
use Rattle.sw_sim_world.specs.ScriptedWorld.{ScriptedWorld}
use Rattle.sw_sim_world.specs.Doing.{DoesEvent, Done}
use Rattle.sw_play.specs.Promised.{ComesBefore, IsGetEnd, KeepsWord, TellsAfterDelete, TellsAfterPut, TellsEndOf, TellsLaterGet}
use Rattle.sw_play.proofs.Founds.{ends_in}
use Rattle.sw_play.proofs.Starts.{started-later}
use Rattle.sw_play.proofs.Stories.{AreDone, Does, both_done}

-- ---- ends

-- the end that a line tells is that of its operation
pub told_end : (before : ScriptedWorld) (done : Done) (operation : Operating) (how : OpEnd) → DoesEvent before done → TellsEndOf done operation how → IsEndOf operation.begun operation.past how
told_end before done operation how does tells =
    let (other, there, is) = ends_in before done.steps done.after done.told.ends does.steps does.tells.ends tells.line tells.told in
    let same : other ≡ operation = same_Some other operation (sym there ∙ tells.there) in
    subst (λ (one : Operating). IsEndOf one.begun one.past how) same (subst (IsEndOf other.begun other.past) tells.end_is is)

-- the end of a get, or of a head
pub get_end : (begun : Begun) (past : List transcript.Step) (other : gets.Begun) (told : OpEnd) (how : GetEnd) → IsGetOf begun other → IsGetEnd told how → IsEndOf begun past told → gets.IsEnd other past how
get_end (Get begun) past other (end.Get one) how same is ended = subst (λ (it : gets.Begun). gets.IsEnd it past how) same (subst (gets.IsEnd begun past) is ended)
get_end (Get begun) past other (end.Head one) how same is ended = absurd ended
get_end (Get begun) past other told how same none ended = absurd none
get_end (Head begun) past other (end.Head one) how same is ended = subst (λ (it : gets.Begun). gets.IsEnd it past how) same (subst (gets.IsEnd begun past) is ended)
get_end (Head begun) past other (end.Get one) how same is ended = absurd ended
get_end (Head begun) past other told how same none ended = absurd none
get_end begun past other told how none is ended = absurd none

-- what was created is of the put's own stamp
created_own : (begun : puts.Begun) (past : List transcript.Step) (stamp count : ℕ) → created.Settled begun past (Created stamp count) → stamp ≡ begun.stamp
created_own begun past stamp count (created.first_floor floor is same) = absurd (cc)
created_own begun past stamp count (created.few_synced none few same) = absurd (cc)
created_own begun past stamp count (created.enough_made none enough many same) = cc
created_own begun past stamp count (created.second_floor floor none enough few is same) = absurd (cc)
created_own begun past stamp count (created.few_made none enough few is same) = absurd (cc)

-- what was deleted, of the delete's
deleted_own : (begun : deletes.Begun) (past : List transcript.Step) (stamp count : ℕ) (existed : Bool) → deleted.Settled begun past (Deleted stamp count existed) → stamp ≡ begun.stamp
deleted_own begun past stamp count existed (deleted.enough_marks enough same) = cc
deleted_own begun past stamp count existed (deleted.some_floor floor few is same) = absurd (cc)
deleted_own begun past stamp count existed (deleted.few_marks few none same) = absurd (cc)

-- ---- two lines

module _ (cluster : ClusterModel) (earlier later : Done) (done : AreDone cluster earlier later) where
  -- a later get has ended
  ends_later : (name : NameModel) (start : ℕ) (out : List ℕ) (how : GetEnd) → TellsLaterGet earlier later name start out how → EndsLater earlier.after.world later.after.world name start out how
  ends_later name start out how tells = record {
    operation = tells.operation;
    there = record { number = tells.tells.line.operation; there = tells.tells.there };
    begun = tells.begun;
    begun_is = tells.begun_is;
    same_name = tells.same_name;
    later = started-later earlier.after.world done.leads.later later.after.world tells.tells.line.operation tells.operation done.leads.lead tells.tells.there tells.started_later;
    ended = get_end tells.operation.begun tells.operation.past tells.begun tells.told_end how tells.begun_is tells.end_is (told_end done.between later tells.operation tells.told_end done.does_later tells.tells);
    are_out = tells.are_out;
  }

  module _ (stamp count : ℕ) (out : List ℕ) (how : GetEnd) where
    -- after a put
    after_put : TellsAfterPut earlier later stamp count out how → IsAfterPut cluster stamp count out how
    after_put tells =
        let ended : puts.put_end tells.begun tells.operation.past ≡ Some (Created stamp count) =
        subst (λ (one : Begun). IsEndOf one tells.operation.past (end.Put (Created stamp count))) tells.begun_is (told_end done.before earlier tells.operation (end.Put (Created stamp count)) done.does_earlier tells.tells) in
        let own = created_own tells.begun tells.operation.past stamp count (created.settled tells.begun tells.operation.past (Created stamp count) ended) in
        record {
          old = earlier.after.world;
          new = later.after.world;
          leads = done.leads;
          begun = tells.begun;
          created = record {
            operation = tells.operation;
            there = record { number = tells.tells.line.operation; there = tells.tells.there };
            begun_is = tells.begun_is;
            ended = subst (λ (one : ℕ). puts.put_end tells.begun tells.operation.past ≡ Some (Created one count)) own ended;
          };
          stamp_is = sym own;
          put = tells.put;
          started = tells.started;
          put_is = tells.put_is;
          ends = ends_later tells.begun.name tells.put.start out how tells.later;
        }

    -- after a delete
    after_delete : TellsAfterDelete earlier later stamp count out how → IsAfterDelete cluster stamp count out how
    after_delete tells =
        let it = Deleted stamp count tells.existed in
        let ended : deletes.delete_end tells.begun tells.operation.past ≡ Some it =
        subst (λ (one : Begun). IsEndOf one tells.operation.past (end.Delete it)) tells.begun_is (told_end done.before earlier tells.operation (end.Delete it) done.does_earlier tells.tells) in
        let own = deleted_own tells.begun tells.operation.past stamp count tells.existed (deleted.settled tells.begun tells.operation.past it ended) in
        record {
          old = earlier.after.world;
          new = later.after.world;
          leads = done.leads;
          begun = tells.begun;
          existed = tells.existed;
          deleted = record {
            operation = tells.operation;
            there = record { number = tells.tells.line.operation; there = tells.tells.there };
            begun_is = tells.begun_is;
            ended = subst (λ (one : ℕ). deletes.delete_end tells.begun tells.operation.past ≡ Some (Deleted one count tells.existed)) own ended;
          };
          stamp_is = sym own;
          delete = tells.delete;
          started = tells.started;
          delete_is = tells.delete_is;
          ends = ends_later tells.begun.name tells.delete.start out how tells.later;
        }

-- ---- a story

module _ (cluster : ClusterModel) (first : ScriptedWorld) (events : List Event) (run : IsRun cluster events first.world) (story : List Done) (last : ScriptedWorld) (does : Does first story last) where
  both : (earlier later : Done) → ComesBefore story earlier later → AreDone cluster earlier later
  both earlier later comes = both_done cluster first events run story last earlier later does comes

  -- it keeps its word
  pub keeps_word : KeepsWord cluster story
  keeps_word = record {
    never_older = λ earlier later stamp commits out how comes tells few. never_older cluster stamp commits out how (after_put cluster earlier later (both earlier later comes) stamp commits out how tells) few;
    shows = λ earlier later stamp commits out how comes tells few spare. shows cluster stamp commits out how (after_put cluster earlier later (both earlier later comes) stamp commits out how tells) few spare;
    stays_deleted = λ earlier later stamp marks out how comes tells few. stays_deleted cluster stamp marks out how (after_delete cluster earlier later (both earlier later comes) stamp marks out how tells) few;
  }
