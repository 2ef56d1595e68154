-- Keys of a load tell their workers apart: what a key's number is multiplied with has an inverse.
use Rattle.std.proofs.Common.{◌≡◌, ℕ, ◌+◌, ◌*◌, ◌/◌, ◌%◌, ◌^◌, ◌<◌, ◌≤◌, ap, sym, ◌∙◌, arith}
use Rattle.std.proofs.Math.Nat.{mul-add-mod_self_left, mul_comm, mul-le-mul_right, mod-lt, mod-eq_of_lt}
use Rattle.script_text.specs.declared.shape.Shape.{Shape}
use Rattle.script_text.specs.Generator.{key_for}

-- the number before the product
undone : (number : ℕ) → number < 2 ^ 64 → (number * 11400714819323198485 % 2 ^ 64) * 17428512612931826493 % 2 ^ 64 ≡ number
undone number small = omega arith

-- the number of a key
number_of : Shape → ℕ → ℕ → ℕ
number_of shape worker draw = draw / 2 ^ 33 % shape.keys * shape.verifiers + worker

number-small : (shape : Shape) (worker draw : ℕ) → 0 < shape.keys → shape.keys ≤ 2 ^ 32 → shape.verifiers ≤ 2 ^ 16 → worker < shape.verifiers → number_of shape worker draw < 2 ^ 64
unfolding number_of
number-small shape worker draw some few_keys few one =
    let picked : draw / 2 ^ 33 % shape.keys < shape.keys = mod-lt (draw / 2 ^ 33) some in
    let product = mul-le-mul_right {m = draw / 2 ^ 33 % shape.keys} {n = 2 ^ 32} shape.verifiers (omega arith) in
    omega arith

number-worker : (shape : Shape) (worker draw : ℕ) → worker < shape.verifiers → number_of shape worker draw % shape.verifiers ≡ worker
unfolding number_of
number-worker shape worker draw one =
    ap (λ product. (product + worker) % shape.verifiers) (mul_comm (draw / 2 ^ 33 % shape.keys) shape.verifiers)
    ∙ mul-add-mod_self_left shape.verifiers (draw / 2 ^ 33 % shape.keys) worker
    ∙ mod-eq_of_lt one

-- one key is of one worker
pub key-own : (shape : Shape) (one other a b : ℕ) → 0 < shape.keys → shape.keys ≤ 2 ^ 32 → shape.verifiers ≤ 2 ^ 16 → one < shape.verifiers → other < shape.verifiers
    → key_for shape one a ≡ key_for shape other b → one ≡ other
unfolding key_for number_of
key-own shape one other a b some few_keys few is_one is_other same =
    let back = λ (key : ℕ). key * 17428512612931826493 % 2 ^ 64 in
    let numbers : number_of shape one a ≡ number_of shape other b =
    sym (undone (number_of shape one a) (number-small shape one a some few_keys few is_one))
    ∙ ap back same
    ∙ undone (number_of shape other b) (number-small shape other b some few_keys few is_other) in
    sym (number-worker shape one a is_one) ∙ ap (λ number. number % shape.verifiers) numbers ∙ number-worker shape other b is_other
