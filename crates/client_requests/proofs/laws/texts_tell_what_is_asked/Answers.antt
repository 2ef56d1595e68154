use Rattle.client_requests.proofs.TextLemmas.{texts-one}
use Rattle.client_requests.proofs.laws.texts_tell_what_is_asked.Goals as goal

pub returns : goal.returns
returns c = record { asked = texts-one }
