-- Of which tree the paths of a bundle are, and how wide the word is that holds a path of a tree.
use Rattle.std.specs.Prelude.{◌==◌, Bool, true, false}
use Rattle.std.specs.Int.{Width, w64, w128}
use Rattle.lamport_clocks.specs.declared.header.Header.{Header}

-- the word that has as many bits as the keys of a tree
abbrev pub word_width : Bool → Width
word_width false = w64
word_width true = w128

-- the tree of a bundle with this header: that whose keys have 128 bits, or 64
abbrev pub wide_of : Header → Bool
wide_of header = header.bits == 128
