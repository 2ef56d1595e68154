use Rattle.record_text.proofs.SameLemmas.{apart_by_path, same_by_digest}
use Rattle.record_text.proofs.value.Pointer.is_same.Goals as goal

pub returns-then-not-is_same : goal.returns-then-not-is_same
returns-then-not-is_same c = record {
  same = (λ is. absurd (cc), apart_by_path c.args.self.now c.args.other.now c.if-not-is_same.ensures.value);
}

pub returns : goal.returns
returns c = record {
  same = same_by_digest c.args.self.now c.args.other.now c.eq.result c.if-not-is_same.ensures.value c.if-self-other.false c.eq.ensures;
}
