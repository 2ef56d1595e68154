use Rattle.host_laws.proofs.RequestLaws.{request_ends}
use Rattle.host_laws.proofs.laws.a_request_past_the_end_is_refused.Goals as goal

pub returns : goal.returns
returns c = record { refused = request_ends }
