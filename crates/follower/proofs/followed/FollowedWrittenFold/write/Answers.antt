use Rattle.std.proofs.Common.{[], refl, append-nil}
use Rattle.std.proofs.lemmas.Result.{on_err_weaker}
use Rattle.report_text.proofs.PassLaws.{Passes-first, Passes-stop}
use Rattle.follower.proofs.followed.FollowedWrittenFold.write.Goals as goal

pub returns-clause-front : goal.returns-clause-front
returns-clause-front g c =
    let written = Passes-first _ _ _ _ _ _ c.new-page.ensures.empty refl c.in_ok-write_entries.ensures.whole in
    on_err_weaker c.flush.result (λ front. Passes-stop _ _ _ [] _ _ [] _ written front (append-nil _)) c.flush.ensures.front
