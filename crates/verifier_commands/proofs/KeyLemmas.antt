-- What a test against the root tells of a path, and what a path that has a key tells: it is a data path, and its bits spell the key.
use Rattle.std.proofs.Common.{◌≡◌, ℕ, ◌<◌, ◌^◌, Bool, true, false, List, [], ◌∷◌, refl, ◌∙◌, ap}
use Rattle.tree_keys.specs.Path.{key_bits, tree_of, IsIn, is_data, root_of, key_path, key_of, same_path}
use Rattle.tree_keys.proofs.TreeLaws.{key_path-data, key_of-path, data-is, node-is}
use Rattle.verifier_commands.specs.Transition.{is_root}

pub data_of_key : (path : List Bool) (key : ℕ) → path ≡ key_path (tree_of path) key → is_data path ≡ true
data_of_key path key spelled = ap is_data spelled ∙ data-is (key_path (tree_of path) key) (key_path-data (tree_of path) key)

pub number_of_key : (path : List Bool) (key : ℕ) → path ≡ key_path (tree_of path) key → key < 2 ^ key_bits (tree_of path) → key_of path ≡ key
number_of_key path key spelled fits = ap key_of spelled ∙ key_of-path (tree_of path) key fits

pub ruleset key_view = (data_of_key, number_of_key, node-is)

-- a path is the root of its tree where it is the same as that root
pub root_is : (path : List Bool) (wide : Bool) → IsIn wide path → same_path path (root_of wide) ≡ is_root path
root_is [] wide within = absurd within
root_is (true ∷ []) true within = refl
root_is (true ∷ []) false within = absurd (cc)
root_is (false ∷ []) true within = absurd (cc)
root_is (false ∷ []) false within = refl
root_is (true ∷ bit ∷ bits) true within = refl
root_is (true ∷ bit ∷ bits) false within = refl
root_is (false ∷ bit ∷ bits) true within = refl
root_is (false ∷ bit ∷ bits) false within = refl

pub ruleset root_view = (root_is)
