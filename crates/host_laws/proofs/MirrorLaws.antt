-- A shard mirrors again once a request was served.
use Rattle.std.proofs.Common.{◌≡◌, ℕ, ◌<◌, Bool, true, false, List, [], ◌∷◌, Option, Some, None, IsSome, if◌then◌else◌, refl, sym, subst}
use Rattle.std.specs.List.{IsAmong, AllByRecursion}
use Rattle.std.proofs.lemmas.Bool.{false≢true}
use Rattle.tree_keys.specs.Path.{side, same_path, IsIn, IsData, key_path}
use Rattle.tree_keys.proofs.PathLaws.{same_path-true}
use Rattle.tree_keys.proofs.TreeLaws.{in-below, key_path-data}
use Rattle.lamport_clocks.specs.Reading.{Reading}
use Rattle.record_text.specs.declared.request.Request.{Request}
use Rattle.record_text.specs.declared.value.Pointer.{Pointer}
use Rattle.record_text.specs.declared.value.Value.{Value}
use Rattle.record_text.specs.declared.value.Value.TheVariants as values
use Rattle.record_text.specs.Value.{IsBlob, IsOf}
use Rattle.merkle_records.specs.Merkle.{Digest, GivesDigests, leads_over}
use Rattle.log_codec.specs.declared.command.Command.{Command}
use Rattle.log_codec.specs.declared.command.Command.TheVariants.{EvictM, Get, Put, Absent}
use Rattle.soundness.specs.Typed.{IsPathTypedIn}
use Rattle.host_shard.specs.declared.link.Link.{Link}
use Rattle.host_shard.specs.Tree.{Tree, pointer_of}
use Rattle.host_shard.specs.Chain.{IsChain, pointer_toward, last_value, end_path, known_links, closed_records}
use Rattle.host_shard.specs.Shard.{key_path_in, wide_in, Shard, tree_of, one_more, touched}
use Rattle.host_shard.specs.Content.{wide_at, Content, cold, hot, vacant}
use Rattle.host_shard.specs.Mirrors.{IsKeyOf}
use Rattle.host_plan.specs.Request.{command_of, value_after, is_missed, links_known, links_gone, end_command, served}
use Rattle.host_plan.specs.Visit.{visit}
use Rattle.host_plan.specs.Moments.{renewing}
use Rattle.host_plan.specs.Plan.{Owns, IsServable, CanServe, IsPlan}
use Rattle.host_plan.specs.declared.plans.Plan.{Plan}
use Rattle.host_laws.specs.Mirroring.{IsMirrored, ContentMirrors, IsCold}
use Rattle.host_laws.proofs.ChainLaws.{LeadTo, AreOf, next_fits}
use Rattle.host_laws.proofs.ToldLaws.{all-append}
use Rattle.host_laws.proofs.FrontierLaws.{leads, frontier_in, frontier_there, frontier_of}
use Rattle.host_laws.proofs.DepthLaws.{whole_none}
use Rattle.host_laws.proofs.StayLaws.{found_gone}
use Rattle.host_laws.proofs.PartLemmas.{kept_after, waits_after, hot_waits_after, reached_after, kinds_after, keeps_record, key_record}

-- the value at a chain's end is of its path's kind
pub last_kind : (longest : ℕ) (digest : Digest) (tree : Tree) (key : List Bool) → LeadTo longest digest tree key
    → (path : List Bool) (value : Value) (links : List Link) → IsOf longest path value → AreOf tree value → IsChain tree key path value links
    → IsOf longest key (last_value value links)
last_kind longest digest tree key lead path value [] kind known chain = subst (λ (k : List Bool). IsOf longest k value) chain kind
last_kind longest digest tree key lead path value (link ∷ links) kind known chain =
    let next = next_fits longest digest tree key lead path value link kind known chain.0 in
    last_kind longest digest tree key lead link.path link.taken links next.kind next.known chain.1

-- a request leaves its key a value of its kind
pub after_kind : (longest : ℕ) (wide : Bool) (request : Request) (found : Value) → IsBlob longest request.value → IsData (key_path wide request.key)
    → IsOf longest (key_path wide request.key) found → IsOf longest (key_path wide request.key) (value_after request found)
after_kind longest wide request found fits whole kind = go request.put
  where
    go : (b : Bool) → IsOf longest (key_path wide request.key) (if b then values.Blob request.value else found)
    go true = (whole, fits)
    go false = kind

-- The shard mirrors again once it served a request, with the same keys hot.
pub served_mirrors : (longest : ℕ) (digest : Digest) (worker : ℕ) (shard : Shard) (hot_keys : List (List Bool)) (links : List Link) (request : Request) (clock : Reading) (missed : Bool)
    → GivesDigests digest → IsBlob longest request.value → IsMirrored longest digest shard hot_keys → IsKeyOf shard (key_path_in shard request.key)
    → (IsAmong hot_keys (key_path_in shard request.key) → ⊥)
    → IsChain (tree_of shard) (key_path_in shard request.key) shard.frontier shard.value links
    → IsMirrored longest digest (served digest worker shard links request clock missed) hot_keys
served_mirrors longest digest worker shard hot_keys links request clock true digests fits_blob mirrored own not_hot chain = record {
  fits = record {
    below_root = mirrored.fits.below_root;
    no_data = mirrored.fits.no_data;
    kinds = mirrored.fits.kinds;
  };
  mirrors = record {
    kept = mirrored.mirrors.kept;
    waits = mirrored.mirrors.waits;
    reached = mirrored.mirrors.reached;
    hot_waits = mirrored.mirrors.hot_waits;
    hot_keys = mirrored.mirrors.hot_keys;
    touched = mirrored.mirrors.touched;
  };
}
served_mirrors longest digest worker shard hot_keys links request clock false digests fits_blob mirrored own not_hot chain =
    subst (λ (s : Shard). IsMirrored longest digest (record s { stamp = (renewing clock shard.stamp).at; evictor = worker }) hot_keys)
    (sym (found_gone longest digest shard links request can chain))
    (record {
      fits = record {
        below_root = mirrored.fits.below_root;
        no_data = mirrored.fits.no_data;
        kinds = kinds_after longest digest tree shard.records shard.frontier shard.value key last lead links chain kind is_top digests kind_last;
      };
      mirrors = record {
        kept = kept_after longest digest tree shard.records shard.frontier shard.value key last lead links chain kind is_top mirrored.mirrors.reached bare mirrored.mirrors.kept;
        waits = waits_after longest digest tree shard.records shard.frontier shard.value key last lead links chain kind is_top hot_keys mirrored.mirrors.reached bare mirrored.mirrors.waits;
        reached = reached_after longest digest tree shard.records shard.frontier shard.value key last lead links chain kind is_top mirrored.mirrors.reached;
        hot_waits = λ h among.
            hot_waits_after longest digest tree shard.records shard.frontier shard.value key last lead links chain kind is_top mirrored.mirrors.reached h
            (mirrored.mirrors.hot_keys.whole h among) (λ same. not_hot (subst (IsAmong hot_keys) same among)) (mirrored.mirrors.hot_waits h among);
        hot_keys = mirrored.mirrors.hot_keys;
        touched = touched_after;
      };
    })
  where
    key : List Bool
    key = key_path_in shard request.key

    tree : Tree
    tree = tree_of shard

    can : IsServable longest digest shard key
    can = record { hot = hot_keys; fits = mirrored.fits; mirrors = mirrored.mirrors; own = own; cold = not_hot }

    lead : LeadTo longest digest tree key
    lead = leads longest digest shard key can

    kind : IsOf longest shard.frontier shard.value
    kind = mirrored.fits.kinds shard.frontier shard.value (frontier_there shard)

    is_top : (k : List Bool) → tree k ≡ tree k
    is_top k = refl

    last : Value
    last = value_after request (last_value shard.value links)

    kind_last : IsOf longest key last
    kind_last =
        after_kind longest (wide_in shard) request (last_value shard.value links) fits_blob own.whole
        (last_kind longest digest tree key lead shard.frontier shard.value links kind (frontier_of shard) chain)

    bare : (on : Bool) → pointer_of last on ≡ None
    bare on = go (pointer_of last on) refl
      where
        go : (o : Option Pointer) → pointer_of last on ≡ o → pointer_of last on ≡ None
        go None none = none
        go (Some pointer) is = absurd (whole_none longest key last on pointer kind_last own.whole is)

    touched_after : (k : List Bool) → 0 < touched shard.touches key k → IsSome (closed_records digest false shard.records links last k)
    touched_after k some = go (same_path k key) refl some
      where
        below : (s : Option Bool) → side shard.frontier key ≡ s → IsSome s → IsSome (closed_records digest false shard.records links last key)
        below None none is = absurd (false≢true is)
        below (Some on) under is =
            key_record longest digest tree shard.records shard.frontier shard.value key last lead shard.frontier shard.value links on kind (frontier_of shard) chain under

        go : (b : Bool) → same_path k key ≡ b → 0 < (if b then one_more (shard.touches k) else shard.touches k)
            → IsSome (closed_records digest false shard.records links last k)
        go true same some' =
            subst (λ (j : List Bool). IsSome (closed_records digest false shard.records links last j)) (sym (same_path-true k key same))
            (below (side shard.frontier key) refl own.below)
        go false apart some' =
            keeps_record longest digest tree shard.records shard.frontier shard.value key last lead links k (mirrored.mirrors.touched k some')

-- A content mirrors again once it served a request.
pub plan_mirrors : (absent : Bool) (longest : ℕ) (digest : Digest) (worker : ℕ) (hot_keys : List (List Bool)) (content after : Content) (request : Request)
    (clock later : Reading) (plan : Plan)
    → GivesDigests digest → IsBlob longest request.value → ContentMirrors longest digest hot_keys content → Owns longest content request.key → IsCold hot_keys content request.key
    → IsPlan absent digest worker content request clock plan after later → ContentMirrors longest digest hot_keys after
plan_mirrors absent longest digest worker hot_keys (cold shard) after request clock later plan digests fits_blob mirrored owns not_hot is =
    subst (ContentMirrors longest digest hot_keys) (sym is.content)
    (served_mirrors longest digest worker shard hot_keys is.links request clock (is_missed absent shard is.links request) digests fits_blob mirrored owns.1 not_hot is.way)
plan_mirrors absent longest digest worker hot_keys (hot found) after request clock later plan digests fits_blob mirrored owns not_hot is =
    subst (ContentMirrors longest digest hot_keys) (sym is.content) (go request.put)
  where
    go : (b : Bool) → IsBlob longest (if b then request.value else found.value)
    go true = fits_blob
    go false = mirrored
plan_mirrors absent longest digest worker hot_keys vacant after request clock later plan digests fits_blob mirrored owns not_hot is = absurd owns

-- A content that mirrors can serve a key that it owns.
pub mirrors_serve : (longest : ℕ) (digest : Digest) (hot_keys : List (List Bool)) (content : Content) (key : ℕ)
    → ContentMirrors longest digest hot_keys content → Owns longest content key → IsCold hot_keys content key → CanServe longest digest content key
mirrors_serve longest digest hot_keys (cold shard) key mirrored owns not_hot =
    record { hot = hot_keys; fits = mirrored.fits; mirrors = mirrored.mirrors; own = owns.1; cold = not_hot }
mirrors_serve longest digest hot_keys (hot found) key mirrored owns not_hot = owns
mirrors_serve longest digest hot_keys vacant key mirrored owns not_hot = absurd owns

-- ---- the trees and the kinds of what is logged

command_typed : (wide : Bool) (longest : ℕ) (request : Request) (found : Value) → IsBlob longest request.value → IsPathTypedIn wide longest (command_of wide request found)
command_typed wide longest request found fits = go request.put
  where
    go : (b : Bool) → IsPathTypedIn wide longest (if b then Put (key_path wide request.key) (values.Blob request.value) else Get (key_path wide request.key) found)
    go true = (refl, (key_path-data wide request.key, fits))
    go false = (refl, tt)

visit_typed : (wide : Bool) (longest : ℕ) (digest : Digest) (tree : Tree) (key : List Bool) → LeadTo longest digest tree key
    → (inner : List Command) → AllByRecursion (IsPathTypedIn wide longest) inner
    → (path : List Bool) (value : Value) (links : List Link) → IsIn wide path → IsOf longest path value → AreOf tree value → IsChain tree key path value links
    → AllByRecursion (IsPathTypedIn wide longest) (visit path links inner)
visit_typed wide longest digest tree key lead inner typed path value [] within kind known chain = typed
visit_typed wide longest digest tree key lead inner typed path value (link ∷ links) within kind known chain =
    let next = next_fits longest digest tree key lead path value link kind known chain.0 in
    let below = in-below wide path link.path next.on within next.fits.below in (
      ((below, within), next.added),
      all-append (IsPathTypedIn wide longest) (visit link.path links inner) (EvictM link.path path ∷ [])
          (visit_typed wide longest digest tree key lead inner typed link.path link.taken links below next.kind next.known chain.1) (((below, within), tt), tt),
    )

-- the same of the links that have records
known_typed : (wide : Bool) (longest : ℕ) (digest : Digest) (tree : Tree) (key : List Bool) → LeadTo longest digest tree key
    → (inner : List Command) → AllByRecursion (IsPathTypedIn wide longest) inner
    → (path : List Bool) (value : Value) (links : List Link) → IsIn wide path → IsOf longest path value → AreOf tree value → IsChain tree key path value links
    → AllByRecursion (IsPathTypedIn wide longest) (visit path (known_links key path value links) inner)
known_typed wide longest digest tree key lead inner typed path value [] within kind known chain = typed
known_typed wide longest digest tree key lead inner typed path value (link ∷ links) within kind known chain =
    let next = next_fits longest digest tree key lead path value link kind known chain.0 in
    let below = in-below wide path link.path next.on within next.fits.below in
    go below next.added (known_typed wide longest digest tree key lead inner typed link.path link.taken links below next.kind next.known chain.1)
    (leads_over (pointer_toward value (side path key)) key)
  where
    more : List Command
    more = visit link.path (known_links key link.path link.taken links) inner

    go : IsIn wide link.path → IsOf longest link.path link.value → AllByRecursion (IsPathTypedIn wide longest) more → (b : Bool)
        → AllByRecursion (IsPathTypedIn wide longest) (visit path (if b then link ∷ known_links key link.path link.taken links else []) inner)
    go below added rest false = typed
    go below added rest true =
        (((below, within), added), all-append (IsPathTypedIn wide longest) more (EvictM link.path path ∷ []) rest (((below, within), tt), tt))

-- and the path at their end is of the tree
known_in : (wide : Bool) (longest : ℕ) (digest : Digest) (tree : Tree) (key : List Bool) → LeadTo longest digest tree key
    → (path : List Bool) (value : Value) (links : List Link) → IsIn wide path → IsOf longest path value → AreOf tree value → IsChain tree key path value links
    → IsIn wide (end_path path (known_links key path value links))
known_in wide longest digest tree key lead path value [] within kind known chain = within
known_in wide longest digest tree key lead path value (link ∷ links) within kind known chain =
    let next = next_fits longest digest tree key lead path value link kind known chain.0 in
    let below = in-below wide path link.path next.on within next.fits.below in
    go (known_in wide longest digest tree key lead link.path link.taken links below next.kind next.known chain.1) (leads_over (pointer_toward value (side path key)) key)
  where
    go : IsIn wide (end_path link.path (known_links key link.path link.taken links)) → (b : Bool)
        → IsIn wide (end_path path (if b then link ∷ known_links key link.path link.taken links else []))
    go rest true = rest
    go rest false = within

-- The paths that a plan's commands name are of the tree of its content, and the values that they bring in are of their paths' kinds.
pub plan_typed : (absent : Bool) (longest : ℕ) (digest : Digest) (worker : ℕ) (hot_keys : List (List Bool)) (content after : Content) (request : Request)
    (clock later : Reading) (plan : Plan)
    → IsBlob longest request.value → ContentMirrors longest digest hot_keys content → Owns longest content request.key → IsCold hot_keys content request.key
    → IsPlan absent digest worker content request clock plan after later → AllByRecursion (IsPathTypedIn (wide_at content) longest) plan.commands
plan_typed absent longest digest worker hot_keys (cold shard) after request clock later plan fits_blob mirrored owns not_hot is =
    subst (AllByRecursion (IsPathTypedIn wide longest)) (sym is.commands) (
      (within, kind),
      all-append (IsPathTypedIn wide longest) (visit shard.frontier (links_gone shard is.links request missed) (end_command shard is.links request missed ∷ [])) _
          (gone_typed missed) ((within, tt), tt),
    )
  where
    wide : Bool
    wide = wide_in shard

    key : List Bool
    key = key_path_in shard request.key

    lead : LeadTo longest digest (tree_of shard) key
    lead = leads longest digest shard key (record { hot = hot_keys; fits = mirrored.fits; mirrors = mirrored.mirrors; own = owns.1; cold = not_hot })

    kind : IsOf longest shard.frontier shard.value
    kind = mirrored.fits.kinds shard.frontier shard.value (frontier_there shard)

    within : IsIn wide shard.frontier
    within = frontier_in wide longest shard key owns.0 owns.1 refl

    missed : Bool
    missed = is_missed absent shard is.links request

    gone_typed : (b : Bool) → AllByRecursion (IsPathTypedIn wide longest) (visit shard.frontier (links_gone shard is.links request b) (end_command shard is.links request b ∷ []))
    gone_typed true =
        known_typed wide longest digest (tree_of shard) key lead _ (absent_typed, tt) shard.frontier shard.value is.links within kind (frontier_of shard) is.way
      where
        absent_typed : IsPathTypedIn wide longest (Absent key (end_path shard.frontier (links_known shard is.links request)))
        absent_typed = ((refl, known_in wide longest digest (tree_of shard) key lead shard.frontier shard.value is.links within kind (frontier_of shard) is.way), tt)
    gone_typed false =
        visit_typed wide longest digest (tree_of shard) key lead _ (command_typed wide longest request _ fits_blob, tt) shard.frontier shard.value is.links within kind (frontier_of shard) is.way
plan_typed absent longest digest worker hot_keys (hot found) after request clock later plan fits_blob mirrored owns not_hot is =
    subst (AllByRecursion (IsPathTypedIn found.wide longest)) (sym is.commands)
    ((refl, (key_path-data found.wide found.key, mirrored)), (command_typed found.wide longest request _ fits_blob, ((refl, tt), tt)))
plan_typed absent longest digest worker hot_keys vacant after request clock later plan fits_blob mirrored owns not_hot is = absurd owns
