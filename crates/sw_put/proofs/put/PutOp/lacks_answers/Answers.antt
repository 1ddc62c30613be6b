-- Some fragment's answer is missing, or some commit's.
use Rattle.std.proofs.Common.{◌≡◌, ℕ, ◌+◌, ◌<◌, ◌≤◌, length, sym, ap, ◌∙◌, arith}
use Rattle.std.proofs.lemmas.Bool.{lt-ltb}
use Rattle.std.proofs.lemmas.Bool.Decides.{nat_tests}
use Rattle.std.specs.Prelude.{nat_lt}
use Rattle.sw_put.specs.Inside.{put_seen}
use Rattle.sw_put.proofs.Changes.{by_fields, commits_count, stores_count}
use Rattle.sw_put.proofs.Transcripts.{answers-are, commits-within, length-due, stores-within}
use Rattle.sw_put.proofs.put.PutOp.lacks_answers.Goals as goal

some_missing : (a b c d told due : ℕ) → a + c ≡ told → due ≡ b + d → c ≤ d → a < b → nat_lt a b ≡ nat_lt told due
some_missing a b c d told due all size within less = lt-ltb a b less ∙ sym (lt-ltb told due (omega (arith, all, size, within, less)))

no_more : (a b c d told due : ℕ) → a + c ≡ told → due ≡ b + d → a ≤ b → b ≤ a → nat_lt c d ≡ nat_lt told due
no_more a b c d told due all size within none = grind (arith, nat_tests)

pub returns-then-answered-store_count : goal.returns-then-answered-store_count
returns-then-answered-store_count c = λ begun past stands.
    let stood = by_fields c.self.inside c.args.self.now begun past c.self.view_is stands in
    some_missing _ _ _ _ _ _
    (omega (arith, c.answered.ensures, stores_count (put_seen c.self.inside) begun past stood, answers-are begun past stood.run))
    (omega (arith, length-due begun past, c.store_count.ensures begun past stands)) (commits-within begun past stood.run) c.if-answered-store_count.true

pub returns-else-answered-store_count : goal.returns-else-answered-store_count
returns-else-answered-store_count c = λ begun past stands.
    let stood = by_fields c.self.inside c.args.self.now begun past c.self.view_is stands in
    no_more c.answered.result c.store_count.result _ _ _ _
    (omega (arith, c.answered.ensures, c.answered-else-answered-store_count.ensures, stores_count (put_seen c.self.inside) begun past stood, commits_count (put_seen c.self.inside) begun past stood, answers-are begun past stood.run))
    (omega (arith, length-due begun past, c.store_count.ensures begun past stands, c.len.ensures, c.self.inside.commits_due.ok, ap length stood.commits_due_are))
    (omega (arith, c.answered.ensures, stores_count (put_seen c.self.inside) begun past stood, c.store_count.ensures begun past stands, stores-within begun past stood.run))
    c.if-answered-store_count.false
