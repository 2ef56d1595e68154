use Rattle.std.proofs.Common.{◌≡◌, ℕ, ◌+◌, ◌<◌, List, [], ◌++◌, length, get_or, take, drop, Option, Vec, Global, sym, ◌∙◌, ap, arith, length-append}
use Rattle.std.proofs.Math.ListN.{drop_of_length-le}
use Rattle.std.proofs.lemmas.List.{append-nil, take_more, drop_more, flat_map_more}
use Rattle.std.proofs.lemmas.List.Folds.{length-flat_map-take}
use Rattle.std.specs.List.{flat_map}
use Rattle.lamport_clocks.specs.declared.header.Header.{Header}
use Rattle.bundle_frames.specs.Bundle.{Bundle, Frame, with_frames}
use Rattle.bundle_frames.specs.Progress.{Progress, rest_of}
use Rattle.bundle_frames.specs.WholeBundle.{frames_in}
use Rattle.bundle_frames.proofs.whole.read_pieces.Goals as goal

-- the bytes of the pieces that are left begin with those of the next
flat_map-drop : {X : Type 0} (f : X → List ℕ) (xs : List X) (i : ℕ) (x : X) → i < length xs → x ≡ get_or xs i x
    → flat_map f (drop i xs) ≡ f x ++ flat_map f (drop (i + 1) xs)
flat_map-drop f xs i x below is = ap (flat_map f) (drop_more xs i x below) ∙ ap (λ y. f y ++ flat_map f (drop (i + 1) xs)) (sym is)

-- the bytes of one piece more
length-flat_map-more : {X : Type 0} (f : X → List ℕ) (xs : List X) (i : ℕ) (x : X) → i < length xs → x ≡ get_or xs i x
    → length (flat_map f (take (i + 1) xs)) ≡ length (flat_map f (take i xs)) + length (f x)
length-flat_map-more f xs i x below is =
    ap (λ ys. length (flat_map f ys)) (take_more xs i x below) ∙ ap length (sym (flat_map_more f [] (take i xs) (get_or xs i x)))
    ∙ length-append (flat_map f (take i xs)) (f (get_or xs i x)) ∙ ap (λ y. length (flat_map f (take i xs)) + length (f y)) (sym is)

pub collect-requires-clause-fits : goal.collect-requires-clause-fits
collect-requires-clause-fits c =
    let f = λ (piece : Vec ℕ Global). piece.items in
    let x = c.piece-item.result in
    let all = length-flat_map-take f c.args.pieces.now c.loop-piece.piece-index x c.loop-piece-test.true in
    let same = ap (λ y. length (f y)) c.piece-item.is in
    let value = ap length c.deref.ensures.value in
    omega arith

pub loop-piece-preserved : goal.loop-piece-preserved
loop-piece-preserved c =
    let f = λ (piece : Vec ℕ Global). piece.items in
    let xs = c.args.pieces.now in
    let i = c.loop-piece.piece-index in
    let x = c.piece-item.result in
    let more = flat_map f (drop (i + 1) xs) in
    let size = length-flat_map-more f xs i x c.loop-piece-test.true c.piece-item.is in
    let value = ap length c.deref.ensures.value in
    record {
      rest = sym (c.in_ok-collect.ensures.rest more)
          ∙ ap (λ bytes. with_frames (frames_in c.loop-piece.bundle) (rest_of c.loop-piece.splitter bytes))
          (ap (λ bytes. bytes ++ more) c.deref.ensures.value ∙ sym (flat_map-drop f xs i x c.loop-piece-test.true c.piece-item.is))
          ∙ c.loop-piece.invariant.rest;
      header = c.in_ok-collect.ensures.header;
      position = omega (arith, c.in_ok-collect.ensures.position);
    }

pub returns : goal.returns
returns c =
    let f = λ (piece : Vec ℕ Global). piece.items in
    let xs = c.args.pieces.now in
    let i = c.loop-piece.piece-index in
    let p : Progress = c.loop-piece.splitter in
    let frames = frames_in c.loop-piece.bundle in
    let bundle = λ (header : Option Header) (found : List Frame). let b : Bundle = record { header = header; frames = found; bad = c.end-bundle.result } in b in
    let none : drop i xs ≡ [] = drop_of_length-le xs c.loop-piece-test.false in
    record {
      bundle = ap (λ header. bundle header frames) c.loop-piece.invariant.header ∙ ap (bundle p.header) (sym (append-nil frames))
          ∙ ap (with_frames frames) (sym c.end-bundle.ensures.rest) ∙ ap (λ ys. with_frames frames (rest_of p (flat_map f ys))) (sym none)
          ∙ c.loop-piece.invariant.rest;
    }
