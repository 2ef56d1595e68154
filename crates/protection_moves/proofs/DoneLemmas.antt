-- Transfers one after another: one more in front of others, and others in a shard that lacks a record.
use Rattle.std.proofs.Common.{◌≡◌, ◌⊎◌, ℕ, suc, ◌<◌, ◌≤◌, ◌^◌, IsTrue, Bool, true, false, List, [], ◌∷◌, ◌++◌, map, length, Option, Some, None, if◌then◌else◌, refl, sym, ◌∙◌, ap, subst, inl, inr, append_assoc, arith}
use Rattle.std.proofs.lemmas.Bool.{false≢true}
use Rattle.std.proofs.Math.Path.{fun_ext}
use Rattle.std.specs.List.{AllByRecursion}
use Rattle.tree_keys.specs.BitsLaws.{length-bits_of}
use Rattle.tree_keys.specs.Path as paths
use Rattle.tree_keys.specs.Path.{key_bits, key_path, side, same_path, is_prefix, IsBelow}
use Rattle.tree_keys.proofs.PathLaws.{same_path-self, same_path-true, same_path-apart}
use Rattle.tree_keys.proofs.SideLaws.{is_prefix-self, prefix_cases}
use Rattle.tree_keys.proofs.TreeLaws.{key_path-data, key_path-injective}
use Rattle.lamport_clocks.specs.declared.stamp.Stamp.{Stamp}
use Rattle.lamport_clocks.specs.Clock.{is_open}
use Rattle.lamport_clocks.specs.Reading.{Reading}
use Rattle.record_text.specs.declared.value.Pointer.{Pointer}
use Rattle.record_text.specs.declared.value.Value.{Value}
use Rattle.record_text.specs.declared.value.Value.TheVariants as values
use Rattle.log_codec.specs.declared.command.Command.{Command}
use Rattle.log_codec.specs.declared.command.Command.TheVariants.{EvictB}
use Rattle.merkle_records.specs.Merkle.{Digest}
use Rattle.merkle_records.proofs.KindLaws.{length-side}
use Rattle.host_shard.specs.declared.content.HotRecord.{HotRecord}
use Rattle.host_shard.specs.declared.link.Link.{Link}
use Rattle.host_shard.specs.Chain.{IsChain, next_link, known_link, fork_link, last_value, closed_value, closed_records}
use Rattle.host_shard.specs.Content.{hot_path, Content, vacant}
use Rattle.host_shard.specs.Mirrors.{IsKeyOf}
use Rattle.host_shard.specs.Shard.{key_path_in, wide_in, Shard, tree_of, rehashed}
use Rattle.host_shard.specs.Tree.{Tree, pointer_of}
use Rattle.host_shard.proofs.ChainLaws.{common-right}
use Rattle.host_plan.specs.Moments.{taking, giving}
use Rattle.protection_moves.specs.Stage.{Stage, replaced, placed}
use Rattle.protection_moves.specs.Transfer.{Transfer, demotes, promotes, clock_by_each}
use Rattle.protection_moves.specs.Descent.{Descent, AreLinks, AreDescents, without_record, shard_without, with_back, promoted_record, visit_but_last, become_hot, done_by, done_by_each, commands_by, commands_by_each, data_of}
use Rattle.protection_moves.specs.Lending.{IsLending, IsReturning}
use Rattle.protection_moves.specs.Done.{AreDone, stage_with}
use Rattle.protection_moves.specs.Promotable.{AreRising}
use Rattle.protection_moves.specs.Places.{placed_each, vacated}
use Rattle.protection_moves.specs.Turn.{shard_but}
use Rattle.protection_moves.proofs.SavingLemmas.{closed_elsewhere}

module _ (digest : Digest) (worker : ℕ) where
  -- one more in front
  pub transfers_cons : (old : Stage) (transfer : Transfer) (links : List Link) (transfers : List Transfer) (before mid after : List Command) (last : Command) (new : Stage)
      → AreLinks old.shard transfer links → mid ≡ before ++ commands_by old transfer links
      → AreDone digest worker (done_by digest worker old transfer links) transfers mid last after new
      → AreDone digest worker old (transfer ∷ transfers) before last after new
  transfers_cons old transfer links transfers before mid after last new way logged rest = record {
    descents = record { transfer = transfer; links = links } ∷ rest.descents;
    transfers = ap (λ (es : List Transfer). transfer ∷ es) rest.transfers;
    ways = (way, rest.ways);
    logged = rest.logged
        ∙ ap (λ (cs : List Command). cs ++ (commands_by_each digest worker (done_by digest worker old transfer links) rest.descents ++ last ∷ [])) logged
        ∙ append_assoc before (commands_by old transfer links) (commands_by_each digest worker (done_by digest worker old transfer links) rest.descents ++ last ∷ [])
        ∙ ap (λ (cs : List Command). before ++ cs)
        (sym (append_assoc (commands_by old transfer links) (commands_by_each digest worker (done_by digest worker old transfer links) rest.descents) (last ∷ [])));
    leaves = rest.leaves;
  }

  -- A hot record comes back, and then there are others.
  pub transfers_back : (shard mid_shard : Shard) (found : HotRecord) (clock next : Reading) (transfers : List Transfer) (before mid after : List Command) (last : Command) (new : Stage)
      (touches : List Bool → ℕ) (places : List Content)
      → IsReturning digest found shard before mid mid_shard → next ≡ taking clock found.stamp
      → AreDone digest worker (stage_with mid_shard touches (replaced found.key vacant places) next) transfers mid last after new
      → AreDone digest worker (stage_with shard touches places clock) (demotes found ∷ transfers) before last after new
  transfers_back shard mid_shard found clock next transfers before mid after last new touches places back later rest =
      transfers_cons (stage_with shard touches places clock) (demotes found) back.links transfers before mid after last new back.way back.commands
      (subst (λ (stage : Stage). AreDone digest worker stage transfers mid last after new)
      (ap (λ (s : Shard). stage_with s touches (replaced found.key vacant places) next) back.shard
      ∙ ap (λ (c : Reading). stage_with (rehashed digest (with_back shard found) back.links (values.Blob found.value)) touches (replaced found.key vacant places) c) later)
      rest)

  -- ---- a shard without a record

  -- a path as long as a key that isn't the key is no front of it either
  apart_fronts : (path key : List Bool) → length path ≡ length key → same_path key path ≡ false → (p : List Bool) → is_prefix p key ≡ true → same_path p path ≡ false
  apart_fronts path key long apart p front = go (same_path p path) refl
    where
      never : (path ≡ key) ⊎ ((on : Bool) × (side path key ≡ Some on)) → ⊥
      never (inl same) = false≢true (sym apart ∙ ap (same_path key) same ∙ same_path-self key)
      never (inr below) = absurd (omega (arith, long, length-side path key below.0 below.1))

      go : (b : Bool) → same_path p path ≡ b → b ≡ false
      go true same = absurd (never (prefix_cases path key (subst (λ (q : List Bool). is_prefix q key ≡ true) (same_path-true p path same) front)))
      go false other = refl

  -- the next link depends on records of paths above the key alone
  next_link_same : (tree other : Tree) (key : List Bool) (pointer : Option Pointer) → ((p : List Bool) → is_prefix p key ≡ true → tree p ≡ other p)
      → next_link tree key pointer ≡ next_link other key pointer
  next_link_same tree other key None same = refl
  next_link_same tree other key (Some pointer) same = go (is_prefix pointer.path key) refl
    where
      go : (b : Bool) → is_prefix pointer.path key ≡ b
          → (if b then known_link tree pointer.path else fork_link key pointer) ≡ (if b then known_link other pointer.path else fork_link key pointer)
      go true front = ap (λ (found : Option Value). known_link (λ k. found) pointer.path) (same pointer.path front)
      go false apart = refl

  chain_same : (tree other : Tree) (key at : List Bool) (value : Value) (links : List Link) → ((p : List Bool) → is_prefix p key ≡ true → tree p ≡ other p)
      → IsChain tree key at value links → IsChain other key at value links
  chain_same tree other key at value [] same ends = ends
  chain_same tree other key at value (link ∷ links) same chain = (
    record {
      on = chain.0.on;
      on_side = chain.0.on_side;
      next = chain.0.next ∙ next_link_same tree other key (pointer_of value chain.0.on) same;
    },
    chain_same tree other key link.path link.taken links same chain.1,
  )

  -- each link lies above the key
  link_above : (tree : Tree) (key : List Bool) (pointer : Option Pointer) → is_prefix (next_link tree key pointer).path key ≡ true
  link_above tree key None = is_prefix-self key
  link_above tree key (Some pointer) = go (is_prefix pointer.path key) refl
    where
      go : (b : Bool) → is_prefix pointer.path key ≡ b
          → is_prefix (if b then known_link tree pointer.path else fork_link key pointer).path key ≡ true
      go true front = front
      go false apart = common-right pointer.path key

  links_apart : (tree : Tree) (path key at : List Bool) (value : Value) (links : List Link) → ((p : List Bool) → is_prefix p key ≡ true → same_path p path ≡ false)
      → IsChain tree key at value links → AllByRecursion (λ (link : Link). same_path path link.path ≡ false) links
  links_apart tree path key at value [] apart chain = tt
  links_apart tree path key at value (link ∷ links) apart chain = (
    other link.path (apart link.path (subst (λ (l : Link). is_prefix l.path key ≡ true) (sym chain.0.next) (link_above tree key (pointer_of value chain.0.on)))),
    links_apart tree path key link.path link.taken links apart chain.1,
  )
    where
      other : (p : List Bool) → same_path p path ≡ false → same_path path p ≡ false
      other p apart' = go (same_path path p) refl
        where
          go : (b : Bool) → same_path path p ≡ b → b ≡ false
          go true same = absurd (false≢true (sym apart' ∙ ap (same_path p) (same_path-true path p same) ∙ same_path-self p))
          go false is = refl

  -- what is changed at one path is changed at no other
  closed_else : (tree other : Tree) (links : List Link) (last : Value) (k : List Bool) → tree k ≡ other k
      → closed_records digest true tree links last k ≡ closed_records digest true other links last k
  closed_else tree other [] last k same = same
  closed_else tree other (link ∷ links) last k same =
      ap (λ (o : Option Value). if same_path k link.path then Some (closed_value digest true link.path link.taken links last) else o)
      (closed_else tree other links last k same)

  -- the stage without a record
  abbrev pub stage_but : Stage → List Bool → Stage
  stage_but stage path = record { shard = shard_but stage.shard path; places = stage.places; clock = stage.clock }

  -- a key that becomes hot, and another record that isn't there
  without_but : (shard : Shard) (key : ℕ) (path : List Bool) (links : List Link)
      → same_path (key_path_in shard key) path ≡ false → AllByRecursion (λ (link : Link). same_path path link.path ≡ false) links
      → shard_without digest (shard_but shard path) key links ≡ shard_but (shard_without digest shard key links) path
  without_but shard key path links apart elsewhere =
      ap (λ (t : Tree). record shard { value = closed_value digest true shard.frontier shard.value links last; records = t }) (fun_ext each)
    where
      last : Value
      last = last_value shard.value links

      gone : (b : Bool) → b ≡ true → (if b then None else shard.records path) ≡ None
      gone true is = refl
      gone false is = absurd (false≢true is)

      at : (k : List Bool) (a b : Bool) → same_path k path ≡ b
          → (if a then None else closed_records digest true (without_record shard.records path) links last k)
          ≡ (if b then None else if a then None else closed_records digest true shard.records links last k)
      at k true true here = refl
      at k true false there = refl
      at k false true here =
          ap (closed_records digest true (without_record shard.records path) links last) (same_path-true k path here)
          ∙ closed_elsewhere digest true (without_record shard.records path) links last path elsewhere
          ∙ gone (same_path path path) (same_path-self path)
      at k false false there =
          closed_else (without_record shard.records path) shard.records links last k (ap (λ (b : Bool). if b then None else shard.records k) there)

      each : (k : List Bool) → without_record (closed_records digest true (without_record shard.records path) links last) (key_path_in shard key) k
          ≡ without_record (without_record (closed_records digest true shard.records links last) (key_path_in shard key)) path k
      each k = at k (same_path k (key_path_in shard key)) (same_path k path) refl

  -- a transfer that makes another key of a tree hot than that of this path
  abbrev pub IsElse : Bool → List Bool → Transfer → Type 0
  IsElse wide path (demotes found) = ⊥
  IsElse wide path (promotes key) = (same_path (key_path wide key) path ≡ false) × (length path ≡ length (key_path wide key))

  above_same : (shard : Shard) (path key : List Bool) → ((p : List Bool) → is_prefix p key ≡ true → same_path p path ≡ false)
      → (p : List Bool) → is_prefix p key ≡ true → tree_of shard p ≡ tree_of (shard_but shard path) p
  above_same shard path key apart p front =
      ap (λ (o : Option Value). if same_path p shard.frontier then Some shard.value else o) (sym (ap (λ (b : Bool). if b then None else shard.records p) (apart p front)))

  links_but : (shard : Shard) (path : List Bool) (transfer : Transfer) (links : List Link) → IsElse (wide_in shard) path transfer → AreLinks shard transfer links → AreLinks (shard_but shard path) transfer links
  links_but shard path (demotes found) links is way = absurd is
  links_but shard path (promotes key) links is way =
      chain_same (tree_of shard) (tree_of (shard_but shard path)) (key_path_in shard key) shard.frontier shard.value links
      (above_same shard path (key_path_in shard key) (apart_fronts path (key_path_in shard key) is.1 is.0)) way

  done_but : (stage : Stage) (path : List Bool) (transfer : Transfer) (links : List Link) → IsElse (wide_in stage.shard) path transfer → AreLinks stage.shard transfer links
      → done_by digest worker (stage_but stage path) transfer links ≡ stage_but (done_by digest worker stage transfer links) path
  done_but stage path (demotes found) links is way = absurd is
  done_but stage path (promotes key) links is way =
      ap (λ (s : Shard). let now : Stage = record { shard = s; places = placed (promoted_record worker stage key links) stage.places; clock = giving stage.clock } in now)
      (without_but stage.shard key path links is.0
      (links_apart (tree_of stage.shard) path (key_path_in stage.shard key) stage.shard.frontier stage.shard.value links (apart_fronts path (key_path_in stage.shard key) is.1 is.0) way))

  commands_but : (stage : Stage) (path : List Bool) (transfer : Transfer) (links : List Link) → IsElse (wide_in stage.shard) path transfer
      → commands_by (stage_but stage path) transfer links ≡ commands_by stage transfer links
  commands_but stage path (demotes found) links is = absurd is
  commands_but stage path (promotes key) links is = refl

  -- what descents do where a record isn't there
  pub record AreDescentsBut (stage : Stage) (path : List Bool) (descents : List Descent) : Type 0 where
    pub ways : AreDescents digest worker (stage_but stage path) descents
    pub commands : commands_by_each digest worker (stage_but stage path) descents ≡ commands_by_each digest worker stage descents
    pub leaves : done_by_each digest worker (stage_but stage path) descents ≡ stage_but (done_by_each digest worker stage descents) path

  -- a transfer leaves the frontier
  else_behind : (stage : Stage) (transfer : Transfer) (links : List Link) (path : List Bool) (descents : List Descent)
      → AllByRecursion (λ (descent : Descent). IsElse (wide_in stage.shard) path descent.transfer) descents
      → AllByRecursion (λ (descent : Descent). IsElse (wide_in (done_by digest worker stage transfer links).shard) path descent.transfer) descents
  else_behind stage (demotes found) links path descents all = all
  else_behind stage (promotes key) links path descents all = all

  descents_but : (stage : Stage) (path : List Bool) (descents : List Descent)
      → AllByRecursion (λ (descent : Descent). IsElse (wide_in stage.shard) path descent.transfer) descents
      → AreDescents digest worker stage descents → AreDescentsBut stage path descents
  descents_but stage path [] is ways = record { ways = tt; commands = refl; leaves = refl }
  descents_but stage path (descent ∷ descents) is ways =
      let next : Stage = done_by digest worker stage descent.transfer descent.links in
      let same = sym (done_but stage path descent.transfer descent.links is.0 ways.0) in
      let rest = descents_but next path descents (else_behind stage descent.transfer descent.links path descents is.1) ways.1 in
      record {
        ways = (
          links_but stage.shard path descent.transfer descent.links is.0 ways.0,
          subst (λ (s : Stage). AreDescents digest worker s descents) same rest.ways,
        );
        commands = ap (λ (s : Stage). commands_by (stage_but stage path) descent.transfer descent.links ++ commands_by_each digest worker s descents) (sym same)
            ∙ ap (λ (cs : List Command). commands_by (stage_but stage path) descent.transfer descent.links ++ cs) rest.commands
            ∙ ap (λ (cs : List Command). cs ++ commands_by_each digest worker next descents) (commands_but stage path descent.transfer descent.links is.0);
        leaves = ap (λ (s : Stage). done_by_each digest worker s descents) (sym same) ∙ rest.leaves;
      }

  transfers_else : (wide : Bool) (path : List Bool) (descents : List Descent) → AllByRecursion (IsElse wide path) (map (λ (descent : Descent). descent.transfer) descents)
      → AllByRecursion (λ (descent : Descent). IsElse wide path descent.transfer) descents
  transfers_else wide path [] all = tt
  transfers_else wide path (descent ∷ descents) all = (all.0, transfers_else wide path descents all.1)

  -- Transfers that make other keys hot do the same where a record isn't there.
  pub transfers_but : (old new : Stage) (path : List Bool) (transfers : List Transfer) (before after : List Command) (last : Command)
      → AllByRecursion (IsElse (wide_in old.shard) path) transfers
      → AreDone digest worker old transfers before last after new
      → AreDone digest worker (stage_but old path) transfers before last after (stage_but new path)
  transfers_but old new path transfers before after last all run =
      let but = descents_but old path run.descents (transfers_else (wide_in old.shard) path run.descents (subst (AllByRecursion (IsElse (wide_in old.shard) path)) (sym run.transfers) all)) run.ways in
      record {
        descents = run.descents;
        transfers = run.transfers;
        ways = but.ways;
        logged = run.logged ∙ ap (λ (cs : List Command). before ++ (cs ++ last ∷ [])) (sym but.commands);
        leaves = ap (λ (s : Stage). stage_but s path) run.leaves ∙ sym but.leaves;
      }

  -- A key becomes hot, and then there are others. Its own record is taken away in the end.
  pub transfers_hot : (shard mid_shard : Shard) (key : ℕ) (hot : HotRecord) (clock next : Reading) (stamp : Stamp) (transfers : List Transfer) (before mid after : List Command) (last : Command) (new : Stage)
      (touches : List Bool → ℕ) (places : List Content)
      → IsLending digest worker stamp key shard before hot mid mid_shard → next ≡ giving clock → stamp ≡ next.at
      → AllByRecursion (IsElse (wide_in mid_shard) (key_path_in shard key)) transfers
      → AreDone digest worker (stage_with mid_shard touches (placed hot places) next) transfers mid last after new
      → AreDone digest worker (stage_with shard touches places clock) (promotes key ∷ transfers) before last after (stage_but new (key_path_in shard key))
  transfers_hot shard mid_shard key hot clock next stamp transfers before mid after last new touches places lending later at all rest =
      transfers_cons (stage_with shard touches places clock) (promotes key) links transfers before mid after last (stage_but new path) lending.way
      (lending.commands ∙ ap (λ (t : Stamp). before ++ visit_but_last shard.frontier links (become_hot t)) moment)
      (subst (λ (stage : Stage). AreDone digest worker stage transfers mid last after (stage_but new path)) same
      (transfers_but (stage_with mid_shard touches (placed hot places) next) new path transfers mid after last all rest))
    where
      path : List Bool
      path = key_path_in shard key

      links : List Link
      links = lending.links

      moment : stamp ≡ (giving clock).at
      moment = at ∙ ap (λ (c : Reading). c.at) later

      became : hot ≡ promoted_record worker (stage_with shard touches places clock) key links
      became = lending.record' ∙ ap (λ (t : Stamp). let now : HotRecord = record { wide = wide_in shard; key = key; value = data_of (last_value shard.value links); stamp = t; evictor = worker; touches = 0 } in now) moment

      same : stage_but (stage_with mid_shard touches (placed hot places) next) path ≡ done_by digest worker (stage_with shard touches places clock) (promotes key) links
      same = ap (λ (s : Shard). stage_with s touches (placed hot places) next) lending.shard
          ∙ ap (λ (h : HotRecord). stage_with (shard_without digest shard key links) touches (placed h places) next) became
          ∙ ap (λ (c : Reading). stage_with (shard_without digest shard key links) touches (placed (promoted_record worker (stage_with shard touches places clock) key links) places) c) later

-- keys of a tree above another are others
pub else_all : (digest : Digest) (worker : ℕ) (wide : Bool) (key : ℕ) (keys : List ℕ) → key < 2 ^ key_bits wide
    → AllByRecursion (λ other. other < 2 ^ key_bits wide) keys → AllByRecursion (λ other. key < other) keys
    → AllByRecursion (IsElse digest worker wide (key_path wide key)) (map (λ (k : ℕ). promotes k) keys)
else_all digest worker wide key [] fits all above = tt
else_all digest worker wide key (other ∷ keys) fits all above = (
  (
    same_path-apart (key_path wide other) (key_path wide key) (λ same. absurd (omega (arith, above.0, key_path-injective wide other key all.0 fits same))),
    ap (λ (n : ℕ). suc n) (length-bits_of (key_bits wide) key ∙ sym (length-bits_of (key_bits wide) other)),
  ),
  else_all digest worker wide key keys fits all.1 above.1,
)

-- what is asked of the keys behind the first
pub rest_own : (old new : Shard) (keys : List ℕ) → new.frontier ≡ old.frontier → AllByRecursion (λ key. IsKeyOf old (key_path_in old key)) keys
    → AllByRecursion (λ key. IsKeyOf new (key_path_in new key)) keys
rest_own old new [] same own = tt
rest_own old new (key ∷ keys) same own = (
  record {
    whole = key_path-data (wide_in new) key;
    below = subst (λ (f : List Bool). IsBelow f (key_path (paths.tree_of f) key)) (sym same) own.0.below;
  },
  rest_own old new keys same own.1,
)

pub rest_in_range : (old new : Shard) (keys : List ℕ) → new.frontier ≡ old.frontier → AllByRecursion (λ key. key < 2 ^ key_bits (wide_in old)) keys
    → AllByRecursion (λ key. key < 2 ^ key_bits (wide_in new)) keys
rest_in_range old new keys same fits = subst (λ (f : List Bool). AllByRecursion (λ key. key < 2 ^ key_bits (paths.tree_of f)) keys) (sym same) fits

pub rest_own_back : (old new : Shard) (records : List HotRecord) → new.frontier ≡ old.frontier → AllByRecursion (λ found. IsKeyOf old (hot_path found)) records
    → AllByRecursion (λ found. IsKeyOf new (hot_path found)) records
rest_own_back old new [] same own = tt
rest_own_back old new (found ∷ records) same own = (
  record { whole = own.0.whole; below = subst (λ (f : List Bool). IsBelow f (hot_path found)) (sym same) own.0.below },
  rest_own_back old new records same own.1,
)

pub rest_within : (clock next : Reading) (keys rest : List ℕ) (key : ℕ) → keys ≡ key ∷ rest → next ≡ giving clock
    → (giving (clock_by_each clock (map (λ (k : ℕ). promotes k) keys))).at.counter ≤ clock.end
    → (giving (clock_by_each next (map (λ (k : ℕ). promotes k) rest))).at.counter ≤ next.end
rest_within clock next keys rest key is later within =
    subst (λ (c : Reading). (giving (clock_by_each c (map (λ (k : ℕ). promotes k) rest))).at.counter ≤ c.end) (sym later)
    (subst (λ (ks : List ℕ). (giving (clock_by_each clock (map (λ (k : ℕ). promotes k) ks))).at.counter ≤ clock.end) is within)

-- The run of keys, of which the first becomes hot before the others.
pub transfers_promoted : (digest : Digest) (worker : ℕ) (shard mid_shard rest_shard final : Shard) (key : ℕ) (rest keys : List ℕ) (hot : HotRecord) (others all : List HotRecord)
    (clock next : Reading) (stamp : Stamp) (before mid after : List Command)
    → keys ≡ key ∷ rest → IsLending digest worker stamp key shard before hot mid mid_shard → next ≡ giving clock → stamp ≡ next.at
    → AllByRecursion (λ k. k < 2 ^ key_bits (wide_in shard)) keys → AreRising keys → mid_shard.frontier ≡ shard.frontier
    → ((touches : List Bool → ℕ) (places : List Content) → AreDone digest worker (stage_with mid_shard touches places next) (map (λ (k : ℕ). promotes k) rest) mid
    (EvictB mid_shard.frontier (giving (clock_by_each next (map (λ (k : ℕ). promotes k) rest))).at) after
    (stage_with rest_shard touches (placed_each others places) (clock_by_each next (map (λ (k : ℕ). promotes k) rest))))
    → all ≡ hot ∷ others → ((touches : List Bool → ℕ) → record final { touches = touches } ≡ record (shard_but rest_shard (key_path_in shard key)) { touches = touches })
    → (touches : List Bool → ℕ) (places : List Content) → AreDone digest worker (stage_with shard touches places clock) (map (λ (k : ℕ). promotes k) keys) before
    (EvictB shard.frontier (giving (clock_by_each clock (map (λ (k : ℕ). promotes k) keys))).at) after
    (stage_with final touches (placed_each all places) (clock_by_each clock (map (λ (k : ℕ). promotes k) keys)))
transfers_promoted digest worker shard mid_shard rest_shard final key rest keys hot others all clock next stamp before mid after is lending later at fit rising same run hots left touches places =
    subst (λ (ks : List ℕ). AreDone digest worker (stage_with shard touches places clock) (map (λ (k : ℕ). promotes k) ks) before
    (EvictB shard.frontier (giving (clock_by_each clock (map (λ (k : ℕ). promotes k) ks))).at) after
    (stage_with final touches (placed_each all places) (clock_by_each clock (map (λ (k : ℕ). promotes k) ks)))) (sym is)
    (subst (λ (new : Stage). AreDone digest worker (stage_with shard touches places clock) (promotes key ∷ transfers) before (EvictB shard.frontier (giving (clock_by_each (giving clock) transfers)).at) after new) new
    (subst (λ (last : Command). AreDone digest worker (stage_with shard touches places clock) (promotes key ∷ transfers) before last after
    (stage_but digest worker (stage_with rest_shard touches (placed_each others (placed hot places)) (clock_by_each next transfers)) (key_path_in shard key))) last
    (transfers_hot digest worker shard mid_shard key hot clock next stamp transfers before mid after _ _ touches places lending later at
    others_else (run touches (placed hot places)))))
  where
    transfers : List Transfer
    transfers = map (λ (k : ℕ). promotes k) rest

    fits : AllByRecursion (λ k. k < 2 ^ key_bits (wide_in shard)) (key ∷ rest)
    fits = subst (AllByRecursion (λ k. k < 2 ^ key_bits (wide_in shard))) is fit

    above : AreRising (key ∷ rest)
    above = subst AreRising is rising

    others_else : AllByRecursion (IsElse digest worker (wide_in mid_shard) (key_path_in shard key)) transfers
    others_else = subst (λ (f : List Bool). AllByRecursion (IsElse digest worker (paths.tree_of f) (key_path_in shard key)) transfers) (sym same)
        (else_all digest worker (wide_in shard) key rest fits.0 fits.1 above.0)

    last : EvictB mid_shard.frontier (giving (clock_by_each next transfers)).at ≡ EvictB shard.frontier (giving (clock_by_each (giving clock) transfers)).at
    last = ap (λ (f : List Bool). EvictB f (giving (clock_by_each next transfers)).at) same ∙ ap (λ (c : Reading). EvictB shard.frontier (giving (clock_by_each c transfers)).at) later

    new : stage_but digest worker (stage_with rest_shard touches (placed_each others (placed hot places)) (clock_by_each next transfers)) (key_path_in shard key)
        ≡ stage_with final touches (placed_each all places) (clock_by_each (giving clock) transfers)
    new = ap (λ (s : Shard). let now : Stage = record { shard = s; places = placed_each (hot ∷ others) places; clock = clock_by_each next transfers } in now) (sym (left touches))
        ∙ ap (λ (hs : List HotRecord). stage_with final touches (placed_each hs places) (clock_by_each next transfers)) (sym hots)
        ∙ ap (λ (c : Reading). stage_with final touches (placed_each all places) (clock_by_each c transfers)) later

-- The run of records that come back before other transfers.
pub transfers_returned : (digest : Digest) (worker : ℕ) (shard mid_shard rest_shard : Shard) (found : HotRecord) (rest back : List HotRecord) (more : List Transfer) (hots : List HotRecord)
    (clock next : Reading) (before mid after : List Command)
    → back ≡ found ∷ rest → IsReturning digest found shard before mid mid_shard → next ≡ taking clock found.stamp → mid_shard.frontier ≡ shard.frontier
    → ((touches : List Bool → ℕ) (places : List Content) → AreDone digest worker (stage_with mid_shard touches places next) (map (λ (f : HotRecord). demotes f) rest ++ more) mid
    (EvictB mid_shard.frontier (giving (clock_by_each next (map (λ (f : HotRecord). demotes f) rest ++ more))).at) after
    (stage_with rest_shard touches (placed_each hots (vacated rest places)) (clock_by_each next (map (λ (f : HotRecord). demotes f) rest ++ more))))
    → (touches : List Bool → ℕ) (places : List Content) → AreDone digest worker (stage_with shard touches places clock) (map (λ (f : HotRecord). demotes f) back ++ more) before
    (EvictB shard.frontier (giving (clock_by_each clock (map (λ (f : HotRecord). demotes f) back ++ more))).at) after
    (stage_with rest_shard touches (placed_each hots (vacated back places)) (clock_by_each clock (map (λ (f : HotRecord). demotes f) back ++ more)))
transfers_returned digest worker shard mid_shard rest_shard found rest back more hots clock next before mid after is returning later same run touches places =
    subst (λ (fs : List HotRecord). AreDone digest worker (stage_with shard touches places clock) (map (λ (f : HotRecord). demotes f) fs ++ more) before
    (EvictB shard.frontier (giving (clock_by_each clock (map (λ (f : HotRecord). demotes f) fs ++ more))).at) after
    (stage_with rest_shard touches (placed_each hots (vacated fs places)) (clock_by_each clock (map (λ (f : HotRecord). demotes f) fs ++ more)))) (sym is)
    (transfers_back digest worker shard mid_shard found clock next transfers before mid after _ _ touches places returning later
    (subst (λ (c : Reading). AreDone digest worker (stage_with mid_shard touches (replaced found.key vacant places) next) transfers mid
    (EvictB shard.frontier (giving (clock_by_each c transfers)).at) after
    (stage_with rest_shard touches (placed_each hots (vacated rest (replaced found.key vacant places))) (clock_by_each c transfers))) later
    (subst (λ (f : List Bool). AreDone digest worker (stage_with mid_shard touches (replaced found.key vacant places) next) transfers mid
    (EvictB f (giving (clock_by_each next transfers)).at) after
    (stage_with rest_shard touches (placed_each hots (vacated rest (replaced found.key vacant places))) (clock_by_each next transfers))) same
    (run touches (replaced found.key vacant places)))))
  where
    transfers : List Transfer
    transfers = map (λ (f : HotRecord). demotes f) rest ++ more

-- the clock behind the first record takes the others in too
pub rest_open : (clock next : Reading) (found : HotRecord) (rest back : List HotRecord) → back ≡ found ∷ rest → next ≡ taking clock found.stamp
    → AllByRecursion (λ (f : HotRecord). IsTrue (is_open clock f.stamp.epoch)) back → AllByRecursion (λ (f : HotRecord). IsTrue (is_open next f.stamp.epoch)) rest
rest_open clock next found rest back is later open' =
    subst (λ (c : Reading). AllByRecursion (λ (f : HotRecord). IsTrue (is_open c f.stamp.epoch)) rest) (sym later)
    (subst (AllByRecursion (λ (f : HotRecord). IsTrue (is_open clock f.stamp.epoch))) is open').1

pub rest_within_back : (clock next : Reading) (found : HotRecord) (rest back : List HotRecord) (more : List Transfer) → back ≡ found ∷ rest → next ≡ taking clock found.stamp
    → (giving (clock_by_each clock (map (λ (f : HotRecord). demotes f) back ++ more))).at.counter ≤ clock.end
    → (giving (clock_by_each next (map (λ (f : HotRecord). demotes f) rest ++ more))).at.counter ≤ next.end
rest_within_back clock next found rest back more is later within =
    subst (λ (c : Reading). (giving (clock_by_each c (map (λ (f : HotRecord). demotes f) rest ++ more))).at.counter ≤ c.end) (sym later)
    (subst (λ (fs : List HotRecord). (giving (clock_by_each clock (map (λ (f : HotRecord). demotes f) fs ++ more))).at.counter ≤ clock.end) is within)
