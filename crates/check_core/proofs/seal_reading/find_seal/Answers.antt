use Rattle.std.proofs.Common.{rules, ◌≡◌, ◌≢◌, ◌≤◌, ◌<◌, ◌+◌, ◌*◌, ℕ, true, false, List, Option, Result, length, take, min, vec_len, Ok, Err, IfSome, refl, sym, subst, ap, ◌∙◌, ⊎_elim, arith}
use Rattle.std.proofs.lemmas.List.{length-take-le, take-take}
use Rattle.std.specs.Io.KnownBytes.{Consumes}
use Rattle.fv_outside.specs.Consumed.{TookAtMost}
use Rattle.fv_outside.specs.declared.failure.Failure.{Failure}
use Rattle.record_text.specs.declared.reader.TextFault.TheVariants.{Malformed, Truncated}
use Rattle.seals.specs.Seal.{seal_at}
use Rattle.seals.specs.Answer.{IsUntagged}
use Rattle.check_core.specs.declared.seal_reading.FoundSeal.{FoundSeal}
use Rattle.check_core.specs.declared.unresumed.Unresumed.{Unresumed}
use Rattle.check_core.proofs.SealReadingLemmas.{took_at_most, took_then, took_one, took_past, took_within, bad_front, cut_front, untagged_front, IsCut, cut-more, near_by, short_by, whole_room, at_end_before}
use Rattle.check_core.proofs.seal_reading.find_seal.Goals as goal

pub returns-in-Whole-clause-bytes : goal.returns-in-Whole-clause-bytes
returns-in-Whole-clause-bytes g c =
    let last = c.fills.invariant in
    let x = g.S.Source.left c.args.source.now in
    let y = g.S.Source.left c.fill-filled.new.source in
    let until = c.fill-filled.result.0 in
    let room = c.fill-filled.new.room in
    let front = take until room in
    let wanted = c.wanted-most.ensures.value in
    let full : length room ≡ vec_len c.fills.buffer = omega (arith, c.fill-filled.ensures.len, c.deref_mut.ensures.len) in
    let size : length front ≡ until = length-take-le until room (omega (arith, c.fill-filled.ensures.within, full, wanted)) in
    let took : Consumes x y front = c.fill-filled.ensures.bytes x
    (subst (λ (items : List ℕ). Consumes x (g.S.Source.left c.fills.source) (take c.fills.until items)) (sym c.deref_mut.ensures.value) last.bytes) in
    subst (Consumes x y) (sym (ap (take until) (whole_room (vec_len c.fills.buffer) room _ full))) took

pub returns-in-Whole-clause-within : goal.returns-in-Whole-clause-within
returns-in-Whole-clause-within g c =
    let last = c.fills.invariant in
    let x = g.S.Source.left c.args.source.now in
    let y = g.S.Source.left c.fill-filled.new.source in
    let until = c.fill-filled.result.0 in
    let room = c.fill-filled.new.room in
    let front = take until room in
    let wanted = c.wanted-most.ensures.value in
    let full : length room ≡ vec_len c.fills.buffer = omega (arith, c.fill-filled.ensures.len, c.deref_mut.ensures.len) in
    let size : length front ≡ until = length-take-le until room (omega (arith, c.fill-filled.ensures.within, full, wanted)) in
    let took : Consumes x y front = c.fill-filled.ensures.bytes x
    (subst (λ (items : List ℕ). Consumes x (g.S.Source.left c.fills.source) (take c.fills.until items)) (sym c.deref_mut.ensures.value) last.bytes) in
    λ _. took_at_most _ _ _ front took (omega (arith, size, c.fill-filled.ensures.within, wanted))

pub returns-in-Whole-clause-near : goal.returns-in-Whole-clause-near
returns-in-Whole-clause-near g c =
    let last = c.fills.invariant in
    let x = g.S.Source.left c.args.source.now in
    let y = g.S.Source.left c.fill-filled.new.source in
    let until = c.fill-filled.result.0 in
    let room = c.fill-filled.new.room in
    let front = take until room in
    let wanted = c.wanted-most.ensures.value in
    let full : length room ≡ vec_len c.fills.buffer = omega (arith, c.fill-filled.ensures.len, c.deref_mut.ensures.len) in
    let size : length front ≡ until = length-take-le until room (omega (arith, c.fill-filled.ensures.within, full, wanted)) in
    let took : Consumes x y front = c.fill-filled.ensures.bytes x
    (subst (λ (items : List ℕ). Consumes x (g.S.Source.left c.fills.source) (take c.fills.until items)) (sym c.deref_mut.ensures.value) last.bytes) in
    near_by c.fills.until (vec_len c.fills.buffer) _ _ last.cut (took_at_most _ _ _ front took (omega (arith, size, c.fill-filled.ensures.within, wanted))) last.half

pub returns-in-BadSeal-clause-bad_seal : goal.returns-in-BadSeal-clause-bad_seal
returns-in-BadSeal-clause-bad_seal g c =
    let last = c.fills.invariant in
    let x = g.S.Source.left c.args.source.now in
    let y = g.S.Source.left c.fill-filled.new.source in
    let until = c.fill-filled.result.0 in
    let room = c.fill-filled.new.room in
    let front = take until room in
    let wanted = c.wanted-most.ensures.value in
    let full : length room ≡ vec_len c.fills.buffer = omega (arith, c.fill-filled.ensures.len, c.deref_mut.ensures.len) in
    let size : length front ≡ until = length-take-le until room (omega (arith, c.fill-filled.ensures.within, full, wanted)) in
    let took : Consumes x y front = c.fill-filled.ensures.bytes x
    (subst (λ (items : List ℕ). Consumes x (g.S.Source.left c.fills.source) (take c.fills.until items)) (sym c.deref_mut.ensures.value) last.bytes) in
    let seen : take until c.deref.result.now ≡ front = ap (take until) (c.deref.ensures.value ∙ whole_room (vec_len c.fills.buffer) room _ full) in
    λ _. bad_front c.seals_keep_on.ensures.seals x y front took (subst (λ (b : List ℕ). seal_at b ≡ Err Malformed) seen c.in-BadSeal.ensures.answer)

pub returns-in-BadSeal-clause-near : goal.returns-in-BadSeal-clause-near
returns-in-BadSeal-clause-near g c =
    let last = c.fills.invariant in
    let x = g.S.Source.left c.args.source.now in
    let y = g.S.Source.left c.fill-filled.new.source in
    let until = c.fill-filled.result.0 in
    let room = c.fill-filled.new.room in
    let front = take until room in
    let wanted = c.wanted-most.ensures.value in
    let full : length room ≡ vec_len c.fills.buffer = omega (arith, c.fill-filled.ensures.len, c.deref_mut.ensures.len) in
    let size : length front ≡ until = length-take-le until room (omega (arith, c.fill-filled.ensures.within, full, wanted)) in
    let took : Consumes x y front = c.fill-filled.ensures.bytes x
    (subst (λ (items : List ℕ). Consumes x (g.S.Source.left c.fills.source) (take c.fills.until items)) (sym c.deref_mut.ensures.value) last.bytes) in
    near_by c.fills.until (vec_len c.fills.buffer) _ _ last.cut (took_at_most _ _ _ front took (omega (arith, size, c.fill-filled.ensures.within, wanted))) last.half

pub returns-in-NotTagged-clause-not_tagged : goal.returns-in-NotTagged-clause-not_tagged
returns-in-NotTagged-clause-not_tagged g c =
    let last = c.fills.invariant in
    let x = g.S.Source.left c.args.source.now in
    let y = g.S.Source.left c.fill-filled.new.source in
    let until = c.fill-filled.result.0 in
    let room = c.fill-filled.new.room in
    let front = take until room in
    let wanted = c.wanted-most.ensures.value in
    let full : length room ≡ vec_len c.fills.buffer = omega (arith, c.fill-filled.ensures.len, c.deref_mut.ensures.len) in
    let size : length front ≡ until = length-take-le until room (omega (arith, c.fill-filled.ensures.within, full, wanted)) in
    let took : Consumes x y front = c.fill-filled.ensures.bytes x
    (subst (λ (items : List ℕ). Consumes x (g.S.Source.left c.fills.source) (take c.fills.until items)) (sym c.deref_mut.ensures.value) last.bytes) in
    let seen : take until c.deref.result.now ≡ front = ap (take until) (c.deref.ensures.value ∙ whole_room (vec_len c.fills.buffer) room _ full) in
    λ _. untagged_front (g.D.Digests.functions c.args.d.now) (c.seals_keep_on.ensures.untagged (g.D.Digests.functions c.args.d.now)) x y front took
    (subst (IsUntagged (g.D.Digests.functions c.args.d.now)) seen c.in-NotTagged.ensures.answer)

pub returns-in-NotTagged-clause-near : goal.returns-in-NotTagged-clause-near
returns-in-NotTagged-clause-near g c =
    let last = c.fills.invariant in
    let x = g.S.Source.left c.args.source.now in
    let y = g.S.Source.left c.fill-filled.new.source in
    let until = c.fill-filled.result.0 in
    let room = c.fill-filled.new.room in
    let front = take until room in
    let wanted = c.wanted-most.ensures.value in
    let full : length room ≡ vec_len c.fills.buffer = omega (arith, c.fill-filled.ensures.len, c.deref_mut.ensures.len) in
    let size : length front ≡ until = length-take-le until room (omega (arith, c.fill-filled.ensures.within, full, wanted)) in
    let took : Consumes x y front = c.fill-filled.ensures.bytes x
    (subst (λ (items : List ℕ). Consumes x (g.S.Source.left c.fills.source) (take c.fills.until items)) (sym c.deref_mut.ensures.value) last.bytes) in
    near_by c.fills.until (vec_len c.fills.buffer) _ _ last.cut (took_at_most _ _ _ front took (omega (arith, size, c.fill-filled.ensures.within, wanted))) last.half

pub returns-in-Memory-clause-near : goal.returns-in-Memory-clause-near
returns-in-Memory-clause-near g c =
    let last = c.fills.invariant in
    let x = g.S.Source.left c.args.source.now in
    let y = g.S.Source.left c.fill-filled.new.source in
    let until = c.fill-filled.result.0 in
    let room = c.fill-filled.new.room in
    let front = take until room in
    let wanted = c.wanted-most.ensures.value in
    let full : length room ≡ vec_len c.fills.buffer = omega (arith, c.fill-filled.ensures.len, c.deref_mut.ensures.len) in
    let size : length front ≡ until = length-take-le until room (omega (arith, c.fill-filled.ensures.within, full, wanted)) in
    let took : Consumes x y front = c.fill-filled.ensures.bytes x
    (subst (λ (items : List ℕ). Consumes x (g.S.Source.left c.fills.source) (take c.fills.until items)) (sym c.deref_mut.ensures.value) last.bytes) in
    near_by c.fills.until (vec_len c.fills.buffer) _ _ last.cut (took_at_most _ _ _ front took (omega (arith, size, c.fill-filled.ensures.within, wanted))) last.half

pub returns-then-is_failed-clause-near : goal.returns-then-is_failed-clause-near
returns-then-is_failed-clause-near g c =
    let last = c.fills.invariant in
    let x = g.S.Source.left c.args.source.now in
    let y = g.S.Source.left c.fill-filled.new.source in
    let until = c.fill-filled.result.0 in
    let room = c.fill-filled.new.room in
    let front = take until room in
    let wanted = c.wanted-most.ensures.value in
    let full : length room ≡ vec_len c.fills.buffer = omega (arith, c.fill-filled.ensures.len, c.deref_mut.ensures.len) in
    let size : length front ≡ until = length-take-le until room (omega (arith, c.fill-filled.ensures.within, full, wanted)) in
    let took : Consumes x y front = c.fill-filled.ensures.bytes x
    (subst (λ (items : List ℕ). Consumes x (g.S.Source.left c.fills.source) (take c.fills.until items)) (sym c.deref_mut.ensures.value) last.bytes) in
    near_by c.fills.until (vec_len c.fills.buffer) _ _ last.cut (took_at_most _ _ _ front took (omega (arith, size, c.fill-filled.ensures.within, wanted))) last.half

pub returns-then-is_failed-clause-short : goal.returns-then-is_failed-clause-short
returns-then-is_failed-clause-short g c =
    let last = c.fills.invariant in
    let x = g.S.Source.left c.args.source.now in
    let y = g.S.Source.left c.fill-filled.new.source in
    let until = c.fill-filled.result.0 in
    let room = c.fill-filled.new.room in
    let front = take until room in
    let wanted = c.wanted-most.ensures.value in
    let full : length room ≡ vec_len c.fills.buffer = omega (arith, c.fill-filled.ensures.len, c.deref_mut.ensures.len) in
    let size : length front ≡ until = length-take-le until room (omega (arith, c.fill-filled.ensures.within, full, wanted)) in
    let took : Consumes x y front = c.fill-filled.ensures.bytes x
    (subst (λ (items : List ℕ). Consumes x (g.S.Source.left c.fills.source) (take c.fills.until items)) (sym c.deref_mut.ensures.value) last.bytes) in
    let seen : take until c.deref.result.now ≡ front = ap (take until) (c.deref.ensures.value ∙ whole_room (vec_len c.fills.buffer) room _ full) in
    let untold : seal_at front ≡ Err Truncated = subst (λ (b : List ℕ). seal_at b ≡ Err Truncated) seen c.in-Open.ensures.answer in
    let cut : IsCut until x = cut-more c.seals_are_read_back.ensures.read until x y front took size untold in
    λ failure is other. short_by until until x y cut (took_at_most until x y front took (omega (arith, size))) (omega arith)

pub returns-then-until-most-clause-bad_seal : goal.returns-then-until-most-clause-bad_seal
returns-then-until-most-clause-bad_seal g c =
    let last = c.fills.invariant in
    let x = g.S.Source.left c.args.source.now in
    let y = g.S.Source.left c.fill-filled.new.source in
    let until = c.fill-filled.result.0 in
    let room = c.fill-filled.new.room in
    let front = take until room in
    let wanted = c.wanted-most.ensures.value in
    let full : length room ≡ vec_len c.fills.buffer = omega (arith, c.fill-filled.ensures.len, c.deref_mut.ensures.len) in
    let size : length front ≡ until = length-take-le until room (omega (arith, c.fill-filled.ensures.within, full, wanted)) in
    let took : Consumes x y front = c.fill-filled.ensures.bytes x
    (subst (λ (items : List ℕ). Consumes x (g.S.Source.left c.fills.source) (take c.fills.until items)) (sym c.deref_mut.ensures.value) last.bytes) in
    let seen : take until c.deref.result.now ≡ front = ap (take until) (c.deref.ensures.value ∙ whole_room (vec_len c.fills.buffer) room _ full) in
    let untold : seal_at front ≡ Err Truncated = subst (λ (b : List ℕ). seal_at b ≡ Err Truncated) seen c.in-Open.ensures.answer in
    λ _. cut_front x y front took (c.fill-filled.ensures.end c.if-until-most.true c.if-is_failed.false) untold

pub returns-then-until-most-clause-near : goal.returns-then-until-most-clause-near
returns-then-until-most-clause-near g c =
    let last = c.fills.invariant in
    let x = g.S.Source.left c.args.source.now in
    let y = g.S.Source.left c.fill-filled.new.source in
    let until = c.fill-filled.result.0 in
    let room = c.fill-filled.new.room in
    let front = take until room in
    let wanted = c.wanted-most.ensures.value in
    let full : length room ≡ vec_len c.fills.buffer = omega (arith, c.fill-filled.ensures.len, c.deref_mut.ensures.len) in
    let size : length front ≡ until = length-take-le until room (omega (arith, c.fill-filled.ensures.within, full, wanted)) in
    let took : Consumes x y front = c.fill-filled.ensures.bytes x
    (subst (λ (items : List ℕ). Consumes x (g.S.Source.left c.fills.source) (take c.fills.until items)) (sym c.deref_mut.ensures.value) last.bytes) in
    near_by c.fills.until (vec_len c.fills.buffer) _ _ last.cut (took_at_most _ _ _ front took (omega (arith, size, c.fill-filled.ensures.within, wanted))) last.half

pub returns-then-most-len-clause-bad_seal : goal.returns-then-most-len-clause-bad_seal
returns-then-most-len-clause-bad_seal g c =
    let last = c.fills.invariant in
    let x = g.S.Source.left c.args.source.now in
    let y = g.S.Source.left c.fill-filled.new.source in
    let until = c.fill-filled.result.0 in
    let room = c.fill-filled.new.room in
    let front = take until room in
    let wanted = c.wanted-most.ensures.value in
    let full : length room ≡ vec_len c.fills.buffer = omega (arith, c.fill-filled.ensures.len, c.deref_mut.ensures.len) in
    let size : length front ≡ until = length-take-le until room (omega (arith, c.fill-filled.ensures.within, full, wanted)) in
    let took : Consumes x y front = c.fill-filled.ensures.bytes x
    (subst (λ (items : List ℕ). Consumes x (g.S.Source.left c.fills.source) (take c.fills.until items)) (sym c.deref_mut.ensures.value) last.bytes) in
    let seen : take until c.deref.result.now ≡ front = ap (take until) (c.deref.ensures.value ∙ whole_room (vec_len c.fills.buffer) room _ full) in
    let untold : seal_at front ≡ Err Truncated = subst (λ (b : List ℕ). seal_at b ≡ Err Truncated) seen c.in-Open.ensures.answer in
    let z = g.S.Source.left c.behind_limit.new.source in
    let behind = c.behind_limit.ensures in
    let result : (u : Unresumed) → (let r : Result FoundSeal Unresumed = Err c.behind_limit.result in r ≡ Err u) → c.behind_limit.result ≡ u = λ u is. cc (is) in
    λ is. cut_front x y front took (at_end_before y z (behind.bad_seal (result _ is)) (behind.at_end (result _ is))) untold

pub returns-then-most-len-clause-not_tagged : goal.returns-then-most-len-clause-not_tagged
returns-then-most-len-clause-not_tagged g c =
    let last = c.fills.invariant in
    let x = g.S.Source.left c.args.source.now in
    let y = g.S.Source.left c.fill-filled.new.source in
    let until = c.fill-filled.result.0 in
    let room = c.fill-filled.new.room in
    let front = take until room in
    let wanted = c.wanted-most.ensures.value in
    let full : length room ≡ vec_len c.fills.buffer = omega (arith, c.fill-filled.ensures.len, c.deref_mut.ensures.len) in
    let size : length front ≡ until = length-take-le until room (omega (arith, c.fill-filled.ensures.within, full, wanted)) in
    let took : Consumes x y front = c.fill-filled.ensures.bytes x
    (subst (λ (items : List ℕ). Consumes x (g.S.Source.left c.fills.source) (take c.fills.until items)) (sym c.deref_mut.ensures.value) last.bytes) in
    let z = g.S.Source.left c.behind_limit.new.source in
    let behind = c.behind_limit.ensures in
    let result : (u : Unresumed) → (let r : Result FoundSeal Unresumed = Err c.behind_limit.result in r ≡ Err u) → c.behind_limit.result ≡ u = λ u is. cc (is) in
    λ is. absurd (⊎_elim (λ k. let both = sym k ∙ result _ is in cc (both)) (λ other. ⊎_elim (λ k. let both = sym k ∙ result _ is in cc (both)) (λ k. let both = sym k ∙ result _ is in cc (both)) other) behind.kinds)

pub returns-then-most-len-clause-within : goal.returns-then-most-len-clause-within
returns-then-most-len-clause-within g c =
    let last = c.fills.invariant in
    let x = g.S.Source.left c.args.source.now in
    let y = g.S.Source.left c.fill-filled.new.source in
    let until = c.fill-filled.result.0 in
    let room = c.fill-filled.new.room in
    let front = take until room in
    let wanted = c.wanted-most.ensures.value in
    let full : length room ≡ vec_len c.fills.buffer = omega (arith, c.fill-filled.ensures.len, c.deref_mut.ensures.len) in
    let size : length front ≡ until = length-take-le until room (omega (arith, c.fill-filled.ensures.within, full, wanted)) in
    let took : Consumes x y front = c.fill-filled.ensures.bytes x
    (subst (λ (items : List ℕ). Consumes x (g.S.Source.left c.fills.source) (take c.fills.until items)) (sym c.deref_mut.ensures.value) last.bytes) in
    let z = g.S.Source.left c.behind_limit.new.source in
    let behind = c.behind_limit.ensures in
    λ other. ⊎_elim (λ is. took_then _ x y z front 0 took (behind.at_end is) (omega (arith, size, c.fill-filled.ensures.within, wanted)))
    (λ rest. ⊎_elim (λ is. absurd (other (ap Err is))) (λ is. took_then _ x y z front 0 took (behind.failed is) (omega (arith, size, c.fill-filled.ensures.within, wanted))) rest) behind.kinds

pub returns-then-most-len-clause-near : goal.returns-then-most-len-clause-near
returns-then-most-len-clause-near g c =
    let last = c.fills.invariant in
    let x = g.S.Source.left c.args.source.now in
    let y = g.S.Source.left c.fill-filled.new.source in
    let until = c.fill-filled.result.0 in
    let room = c.fill-filled.new.room in
    let front = take until room in
    let wanted = c.wanted-most.ensures.value in
    let full : length room ≡ vec_len c.fills.buffer = omega (arith, c.fill-filled.ensures.len, c.deref_mut.ensures.len) in
    let size : length front ≡ until = length-take-le until room (omega (arith, c.fill-filled.ensures.within, full, wanted)) in
    let took : Consumes x y front = c.fill-filled.ensures.bytes x
    (subst (λ (items : List ℕ). Consumes x (g.S.Source.left c.fills.source) (take c.fills.until items)) (sym c.deref_mut.ensures.value) last.bytes) in
    let seen : take until c.deref.result.now ≡ front = ap (take until) (c.deref.ensures.value ∙ whole_room (vec_len c.fills.buffer) room _ full) in
    let untold : seal_at front ≡ Err Truncated = subst (λ (b : List ℕ). seal_at b ≡ Err Truncated) seen c.in-Open.ensures.answer in
    let cut : IsCut until x = cut-more c.seals_are_read_back.ensures.read until x y front took size untold in
    let z = g.S.Source.left c.behind_limit.new.source in
    let behind = c.behind_limit.ensures in
    let one : TookAtMost 1 y z = ⊎_elim (λ is. took_within 0 1 y z (omega arith) (behind.at_end is))
    (λ other. ⊎_elim (λ is. took_past 1 y z (behind.limit is)) (λ is. took_within 0 1 y z (omega arith) (behind.failed is)) other) behind.kinds in
    let past : TookAtMost (until + 1) x z = took_then (until + 1) x y z front 1 took one (omega (arith, size)) in
    near_by until (until + 1) x z cut past (omega arith)

pub returns-then-most-len-clause-short : goal.returns-then-most-len-clause-short
returns-then-most-len-clause-short g c =
    let last = c.fills.invariant in
    let x = g.S.Source.left c.args.source.now in
    let y = g.S.Source.left c.fill-filled.new.source in
    let until = c.fill-filled.result.0 in
    let room = c.fill-filled.new.room in
    let front = take until room in
    let wanted = c.wanted-most.ensures.value in
    let full : length room ≡ vec_len c.fills.buffer = omega (arith, c.fill-filled.ensures.len, c.deref_mut.ensures.len) in
    let size : length front ≡ until = length-take-le until room (omega (arith, c.fill-filled.ensures.within, full, wanted)) in
    let took : Consumes x y front = c.fill-filled.ensures.bytes x
    (subst (λ (items : List ℕ). Consumes x (g.S.Source.left c.fills.source) (take c.fills.until items)) (sym c.deref_mut.ensures.value) last.bytes) in
    let seen : take until c.deref.result.now ≡ front = ap (take until) (c.deref.ensures.value ∙ whole_room (vec_len c.fills.buffer) room _ full) in
    let untold : seal_at front ≡ Err Truncated = subst (λ (b : List ℕ). seal_at b ≡ Err Truncated) seen c.in-Open.ensures.answer in
    let cut : IsCut until x = cut-more c.seals_are_read_back.ensures.read until x y front took size untold in
    let z = g.S.Source.left c.behind_limit.new.source in
    let behind = c.behind_limit.ensures in
    let one : TookAtMost 1 y z = ⊎_elim (λ is. took_within 0 1 y z (omega arith) (behind.at_end is))
    (λ other. ⊎_elim (λ is. took_past 1 y z (behind.limit is)) (λ is. took_within 0 1 y z (omega arith) (behind.failed is)) other) behind.kinds in
    let past : TookAtMost (until + 1) x z = took_then (until + 1) x y z front 1 took one (omega (arith, size)) in
    λ failure is other. short_by until (until + 1) x z cut past (omega arith)

pub returns-then-most-len-clause-beyond : goal.returns-then-most-len-clause-beyond
returns-then-most-len-clause-beyond g c =
    let last = c.fills.invariant in
    let x = g.S.Source.left c.args.source.now in
    let y = g.S.Source.left c.fill-filled.new.source in
    let until = c.fill-filled.result.0 in
    let room = c.fill-filled.new.room in
    let front = take until room in
    let wanted = c.wanted-most.ensures.value in
    let full : length room ≡ vec_len c.fills.buffer = omega (arith, c.fill-filled.ensures.len, c.deref_mut.ensures.len) in
    let size : length front ≡ until = length-take-le until room (omega (arith, c.fill-filled.ensures.within, full, wanted)) in
    let took : Consumes x y front = c.fill-filled.ensures.bytes x
    (subst (λ (items : List ℕ). Consumes x (g.S.Source.left c.fills.source) (take c.fills.until items)) (sym c.deref_mut.ensures.value) last.bytes) in
    let seen : take until c.deref.result.now ≡ front = ap (take until) (c.deref.ensures.value ∙ whole_room (vec_len c.fills.buffer) room _ full) in
    let untold : seal_at front ≡ Err Truncated = subst (λ (b : List ℕ). seal_at b ≡ Err Truncated) seen c.in-Open.ensures.answer in
    λ _. cut-more c.seals_are_read_back.ensures.read c.args.limit x y front took (omega (arith, size, c.fill-filled.ensures.within, wanted, c.if-until-most.false, c.if-most-len.true)) untold

pub fills-preserved : goal.fills-preserved
fills-preserved g c =
    let last = c.fills.invariant in
    let x = g.S.Source.left c.args.source.now in
    let y = g.S.Source.left c.fill-filled.new.source in
    let until = c.fill-filled.result.0 in
    let room = c.fill-filled.new.room in
    let front = take until room in
    let wanted = c.wanted-most.ensures.value in
    let full : length room ≡ vec_len c.fills.buffer = omega (arith, c.fill-filled.ensures.len, c.deref_mut.ensures.len) in
    let size : length front ≡ until = length-take-le until room (omega (arith, c.fill-filled.ensures.within, full, wanted)) in
    let took : Consumes x y front = c.fill-filled.ensures.bytes x
    (subst (λ (items : List ℕ). Consumes x (g.S.Source.left c.fills.source) (take c.fills.until items)) (sym c.deref_mut.ensures.value) last.bytes) in
    let seen : take until c.deref.result.now ≡ front = ap (take until) (c.deref.ensures.value ∙ whole_room (vec_len c.fills.buffer) room _ full) in
    let untold : seal_at front ≡ Err Truncated = subst (λ (b : List ℕ). seal_at b ≡ Err Truncated) seen c.in-Open.ensures.answer in
    let cut : IsCut until x = cut-more c.seals_are_read_back.ensures.read until x y front took size untold in
    let doubled : vec_len c.double.new.buffer ≡ 2 * vec_len c.fills.buffer = c.in_ok-double.ensures.len in
    let same : take until c.double.new.buffer.items ≡ front =
    sym (take-take until (vec_len c.fills.buffer) c.double.new.buffer.items (omega (arith, c.fill-filled.ensures.within, wanted)))
    ∙ ap (take until) (c.in_ok-double.ensures.front ∙ whole_room (vec_len c.fills.buffer) room _ full) in
    record {
      size = omega (arith, last.size, doubled);
      filled = omega (arith, c.fill-filled.ensures.within, wanted, doubled);
      half = omega (arith, c.if-until-most.false, c.if-most-len.false, c.fill-filled.ensures.within, wanted, doubled);
      few = omega (arith, c.if-until-most.false, c.if-most-len.false, c.fill-filled.ensures.within, wanted, doubled);
      limited = omega (arith, c.fill-filled.ensures.within, wanted);
      bytes = subst (Consumes x y) (sym same) took;
      cut = cut;
      never_falls = omega (arith, last.never_falls, c.fill-filled.ensures.never_falls);
    }

pub returns-in_err-double-clause-near : goal.returns-in_err-double-clause-near
returns-in_err-double-clause-near g c =
    let last = c.fills.invariant in
    let x = g.S.Source.left c.args.source.now in
    let y = g.S.Source.left c.fill-filled.new.source in
    let until = c.fill-filled.result.0 in
    let room = c.fill-filled.new.room in
    let front = take until room in
    let wanted = c.wanted-most.ensures.value in
    let full : length room ≡ vec_len c.fills.buffer = omega (arith, c.fill-filled.ensures.len, c.deref_mut.ensures.len) in
    let size : length front ≡ until = length-take-le until room (omega (arith, c.fill-filled.ensures.within, full, wanted)) in
    let took : Consumes x y front = c.fill-filled.ensures.bytes x
    (subst (λ (items : List ℕ). Consumes x (g.S.Source.left c.fills.source) (take c.fills.until items)) (sym c.deref_mut.ensures.value) last.bytes) in
    near_by c.fills.until (vec_len c.fills.buffer) _ _ last.cut (took_at_most _ _ _ front took (omega (arith, size, c.fill-filled.ensures.within, wanted))) last.half
