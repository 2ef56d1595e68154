-- Where the marks of an index lie.
use Rattle.std.proofs.Common.{◌≡◌, ◌≢◌, ℕ, ◌+◌, ◌-◌, ◌*◌, ◌/◌, ◌%◌, ◌<◌, ◌≤◌, List, [], length, get_or, set, get_or-set_same, get_or-set_other, sym, ◌∙◌, ap, subst, arith}
use Rattle.std.proofs.lemmas.List.{get_or_read}
use Rattle.path_index.specs.declared.index.Mark.{Mark}
use Rattle.path_index.specs.Index.{lies, seen}

within_block : (b h r n : ℕ) → b * 256 + r < n * 256 → b * 256 + (h + r) % 256 < n * 256
within_block b h r n within = omega arith

-- a place within the blocks
pub lies-within : (heads : List ℕ) (rank n : ℕ) → rank < n * 256 → lies heads rank < n * 256
unfolding lies
lies-within heads rank n within = within_block (rank / 256) (get_or heads (rank / 256) 0) (rank % 256) n (omega arith)

one_block : (b h r s : ℕ) → r < 256 → s < 256 → b * 256 + (h + r) % 256 ≡ b * 256 + (h + s) % 256 → r ≡ s
one_block b h r s small_r small_s same = omega arith

two_blocks : (b c x y : ℕ) → x < 256 → y < 256 → b * 256 + x ≡ c * 256 + y → b ≡ c
two_blocks b c x y small_x small_y same = omega arith

-- each rank has a place of its own
pub lies-one : (heads : List ℕ) (i j : ℕ) → lies heads i ≡ lies heads j → i ≡ j
unfolding lies
lies-one heads i j same =
    let block : i / 256 ≡ j / 256 = two_blocks (i / 256) (j / 256) _ _ (omega arith) (omega arith) same in
    let there : j / 256 * 256 + (get_or heads (j / 256) 0 + i % 256) % 256 ≡ j / 256 * 256 + (get_or heads (j / 256) 0 + j % 256) % 256 =
    subst (λ (b : ℕ). b * 256 + (get_or heads b 0 + i % 256) % 256 ≡ j / 256 * 256 + (get_or heads (j / 256) 0 + j % 256) % 256) block same in
    let rest : i % 256 ≡ j % 256 = one_block (j / 256) (get_or heads (j / 256) 0) (i % 256) (j % 256) (omega arith) (omega arith) there in
    omega arith

-- a mark that is written is seen at its rank, and nowhere else
pub seen-here : (marks : List Mark) (heads : List ℕ) (rank : ℕ) (mark : Mark) → length marks ≡ length heads * 256 → rank < length marks → seen (set marks (lies heads rank) mark) heads rank ≡ mark
unfolding seen
seen-here marks heads rank mark blocks within =
    let place : lies heads rank < length marks = subst (λ (n : ℕ). lies heads rank < n) (sym blocks) (lies-within heads rank (length heads) (subst (λ (n : ℕ). rank < n) blocks within)) in
    get_or-set_same marks (lies heads rank) mark _ place

pub seen-elsewhere : (marks : List Mark) (heads : List ℕ) (rank : ℕ) (mark : Mark) (i : ℕ) → i ≢ rank → seen (set marks (lies heads rank) mark) heads i ≡ seen marks heads i
unfolding seen
seen-elsewhere marks heads rank mark i apart =
    get_or-set_other marks (lies heads rank) (lies heads i) mark _ (λ same. apart (lies-one heads i rank same))

-- ---- a block that is turned

up_by_one : (b h r : ℕ) → r < 255 → b * 256 + ((h + 255) % 256 + (r + 1)) % 256 ≡ b * 256 + (h + r) % 256
up_by_one b h r small = omega arith

-- the place of a rank in a block whose head is known
in_block : (heads : List ℕ) (b r : ℕ) → r < 256 → lies heads (b * 256 + r) ≡ b * 256 + (get_or heads b 0 + r) % 256
unfolding lies
in_block heads b r small =
    let block : (b * 256 + r) / 256 ≡ b = omega arith in
    let rest : (b * 256 + r) % 256 ≡ r = omega arith in
    ap (λ (c : ℕ). c * 256 + (get_or heads c 0 + (b * 256 + r) % 256) % 256) block ∙ ap (λ (s : ℕ). b * 256 + (get_or heads b 0 + s) % 256) rest

-- the head of a block went back by one: what lay at a rank lies at the next one
pub turned_up : (heads : List ℕ) (b head i : ℕ) → b < length heads → head ≡ (get_or heads b 0 + 255) % 256 → b * 256 ≤ i → i < b * 256 + 255 → lies (set heads b head) (i + 1) ≡ lies heads i
turned_up heads b head i within is low high =
    let r : ℕ = i - b * 256 in
    let at : i ≡ b * 256 + r = omega arith in
    let next : i + 1 ≡ b * 256 + (r + 1) = omega arith in
    let small : r < 255 = omega arith in
    ap (lies (set heads b head)) next
    ∙ (in_block (set heads b head) b (r + 1) (omega arith)
    ∙ (ap (λ (h : ℕ). b * 256 + (h + (r + 1)) % 256) (get_or-set_same heads b head 0 within ∙ is)
    ∙ (up_by_one b (get_or heads b 0) r small
    ∙ (sym (in_block heads b r (omega arith)) ∙ ap (lies heads) (sym at)))))

down_by_one : (b h r : ℕ) → r < 255 → b * 256 + ((h + 1) % 256 + r) % 256 ≡ b * 256 + (h + (r + 1)) % 256
down_by_one b h r small = omega arith

-- the head went on by one: what lay at the next rank lies at this one
pub turned_down : (heads : List ℕ) (b head i : ℕ) → b < length heads → head ≡ (get_or heads b 0 + 1) % 256 → b * 256 ≤ i → i < b * 256 + 255 → lies (set heads b head) i ≡ lies heads (i + 1)
turned_down heads b head i within is low high =
    let r : ℕ = i - b * 256 in
    let at : i ≡ b * 256 + r = omega arith in
    let next : i + 1 ≡ b * 256 + (r + 1) = omega arith in
    let small : r < 255 = omega arith in
    ap (lies (set heads b head)) at
    ∙ (in_block (set heads b head) b r (omega arith)
    ∙ (ap (λ (h : ℕ). b * 256 + (h + r) % 256) (get_or-set_same heads b head 0 within ∙ is)
    ∙ (down_by_one b (get_or heads b 0) r small
    ∙ (sym (in_block heads b (r + 1) (omega arith)) ∙ ap (lies heads) (sym next)))))

-- the other blocks lie as they did
pub turned_elsewhere : (heads : List ℕ) (b head i : ℕ) → i / 256 ≢ b → lies (set heads b head) i ≡ lies heads i
unfolding lies
turned_elsewhere heads b head i apart =
    ap (λ (h : ℕ). i / 256 * 256 + (h + i % 256) % 256) (get_or-set_other heads b (i / 256) head 0 apart)

pub seen-at : (marks : List Mark) (heads new : List ℕ) (i j : ℕ) → lies new i ≡ lies heads j → seen marks new i ≡ seen marks heads j
unfolding seen
seen-at marks heads new i j same = ap (λ (n : ℕ). get_or marks n (record { path = []; at = 0 })) same

-- ---- by the place that was computed

pub seen-read : (marks : List Mark) (heads : List ℕ) (rank place : ℕ) (mark : Mark) → place ≡ lies heads rank → place < length marks → mark ≡ get_or marks place mark → mark ≡ seen marks heads rank
unfolding seen
seen-read marks heads rank place mark is within read =
    let none : Mark = record { path = []; at = 0 } in
    get_or_read marks place mark within read none ∙ ap (λ (n : ℕ). get_or marks n none) is

pub written-here : (marks : List Mark) (heads : List ℕ) (rank place : ℕ) (mark : Mark) → place ≡ lies heads rank → length marks ≡ length heads * 256 → rank < length marks → seen (set marks place mark) heads rank ≡ mark
written-here marks heads rank place mark is blocks within =
    ap (λ (n : ℕ). seen (set marks n mark) heads rank) is ∙ seen-here marks heads rank mark blocks within

pub written-elsewhere : (marks : List Mark) (heads : List ℕ) (rank place : ℕ) (mark : Mark) (i : ℕ) → place ≡ lies heads rank → i ≢ rank → seen (set marks place mark) heads i ≡ seen marks heads i
written-elsewhere marks heads rank place mark i is apart =
    ap (λ (n : ℕ). seen (set marks n mark) heads i) is ∙ seen-elsewhere marks heads rank mark i apart
