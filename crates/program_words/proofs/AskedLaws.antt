-- The numbers of what words ask for are in their ranges.
use Rattle.std.proofs.Common.{◌≡◌, ℕ, Bool, true, false, List, [], ◌∷◌, Option, Some, None, if◌then◌else◌, option_and_then, subst}
use Rattle.std.specs.Prelude.{codes, Result, Ok, Err, IfOk}
use Rattle.std.specs.Str.{bytes_eq}
use Rattle.clap.specs.Walk.{Row, Text, first_of}
use Rattle.clap.specs.Words.{Kinds, fault_of, subcommand_of}
use Rattle.program_words.specs.Found.{flag_in}
use Rattle.program_words.specs.Key.{key_in}
use Rattle.program_words.specs.HostWords.{numbers_in}
use Rattle.program_words.specs.LoadWords.{load_in}
use Rattle.program_words.specs.SignWords.{sign_numbers_in}
use Rattle.program_words.specs.CommandLine.{fastver_app}
use Rattle.program_words.specs.Words.{check_with, check_as, run_as, gen_as, sign_as, asked_as, asked_by, unless_fault, asked_of, IsInRange}
use Rattle.program_words.proofs.RangeLemmas.{mapped, then_found, and_then_found, numbers_range, load_range, sign_range}
use Rattle.program_words.specs.declared.words.Asked.{Asked}
use Rattle.program_words.specs.declared.words.Asked.TheVariants.{Check, Seal, Audit, Gen, Accept, Follow, Upgrade, Resume}
use Rattle.program_words.specs.declared.words.WordsFault.{WordsFault}

check_range : (path : Option Text) (receipts : Bool) (key : List ℕ) (asked : Asked) → check_with path receipts key ≡ Some asked → IsInRange asked
check_range None receipts key asked is =
    let same : Check (record { key = key; receipts = receipts }) ≡ asked = cc in
    subst IsInRange same tt
check_range (Some path) false key asked is =
    let same : Seal (record { key = key; path = path }) ≡ asked = cc in
    subst IsInRange same tt
check_range (Some path) true key asked is = absurd (cc)

run_range : (rows : List Row) (key : List ℕ) (asked : Asked) → run_as rows key ≡ Some asked → IsInRange asked
run_range rows key asked is =
    let m = mapped _ (numbers_in rows) asked is in
    subst IsInRange m.1.1 (numbers_range rows m.0 m.1.0)

gen_range : (rows : List Row) (key : List ℕ) (asked : Asked) → gen_as rows key ≡ Some asked → IsInRange asked
gen_range rows key asked is =
    let l = then_found (load_in rows) _ asked is in
    let n = then_found (numbers_in rows) _ asked l.1.1 in
    let made : Asked = Gen (record { key = key; load = l.0; numbers = n.0; logs = first_of (codes "logs") rows }) in
    let same : made ≡ asked = (let inside : Some made ≡ Some asked = n.1.1 in cc) in
    subst IsInRange same (load_range rows l.0 l.1.0, numbers_range rows n.0 n.1.0)

sign_as_range : (rows : List Row) (key : List ℕ) (asked : Asked) → sign_as rows key ≡ Some asked → IsInRange asked
sign_as_range rows key asked is =
    let m = mapped _ (sign_numbers_in rows) asked is in
    subst IsInRange m.1.1 (sign_range rows m.0 m.1.0)

as_range : (rows : List Row) (key : List ℕ) (asked : Asked) (check audit run gen accept follow upgrade resume sign : Bool)
    → (if check then check_as rows key else if audit then Some (Audit key) else if run then run_as rows key else if gen then gen_as rows key
    else if accept then Some (Accept key) else if follow then Some (Follow key) else if upgrade then Some (Upgrade key)
    else if resume then Some (Resume key) else if sign then sign_as rows key else None) ≡ Some asked → IsInRange asked
as_range rows key asked true audit run gen accept follow upgrade resume sign is =
    check_range (first_of (codes "seal") rows) (flag_in (codes "receipts") rows) key asked is
as_range rows key asked false true run gen accept follow upgrade resume sign is =
    let same : Audit key ≡ asked = cc in
    subst IsInRange same tt
as_range rows key asked false false true gen accept follow upgrade resume sign is = run_range rows key asked is
as_range rows key asked false false false true accept follow upgrade resume sign is = gen_range rows key asked is
as_range rows key asked false false false false true follow upgrade resume sign is =
    let same : Accept key ≡ asked = cc in
    subst IsInRange same tt
as_range rows key asked false false false false false true upgrade resume sign is =
    let same : Follow key ≡ asked = cc in
    subst IsInRange same tt
as_range rows key asked false false false false false false true resume sign is =
    let same : Upgrade key ≡ asked = cc in
    subst IsInRange same tt
as_range rows key asked false false false false false false false true sign is =
    let same : Resume key ≡ asked = cc in
    subst IsInRange same tt
as_range rows key asked false false false false false false false false true is = sign_as_range rows key asked is
as_range rows key asked false false false false false false false false false is = absurd (cc)

by_range : (command : Text × List Row) (asked : Asked) → asked_by command ≡ Some asked → IsInRange asked
by_range command asked is =
    let k = and_then_found (option_and_then key_in (first_of (codes "key") command.1)) (asked_as command.0 command.1) asked is in
    as_range command.1 k.0 asked (bytes_eq command.0 (codes "check")) (bytes_eq command.0 (codes "audit")) (bytes_eq command.0 (codes "run"))
    (bytes_eq command.0 (codes "gen")) (bytes_eq command.0 (codes "accept")) (bytes_eq command.0 (codes "follow"))
    (bytes_eq command.0 (codes "upgrade")) (bytes_eq command.0 (codes "resume")) (bytes_eq command.0 (codes "sign"))
    k.1.1

free : {X : Type 0} (faults : Kinds) (answer : Option X) (x : X) → unless_fault faults answer ≡ Some x → answer ≡ Some x
free [] answer x is = is
free (fault ∷ more) answer x is = absurd (cc)

pub asked_range : (words : List Text) (asked : Asked) → asked_of words ≡ Some asked → IsInRange asked
asked_range words asked is =
    let sub = and_then_found (subcommand_of fastver_app words) asked_by asked (free (fault_of fastver_app words) _ asked is) in
    by_range sub.0 asked sub.1.1

pub result_range : (answer : Result Asked WordsFault) (words : List Text) → IfOk answer (λ asked. asked_of words ≡ Some asked) → IfOk answer IsInRange
result_range (Ok asked) words is = asked_range words asked is
result_range (Err fault) words is = tt
