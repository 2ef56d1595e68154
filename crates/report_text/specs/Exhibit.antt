-- The text that an audit writes of an exhibit, as bytes: each line ends with a line feed.
use Rattle.std.specs.Prelude.{ℕ, List, ◌++◌, codes}
use Rattle.std.specs.Fmt.{decimal}
use Rattle.std.specs.List.{flat_map}
use Rattle.hex.specs.Hex.{encode_lower}
use Rattle.record_text.specs.Texts.{element_text}
use Rattle.record_text.specs.declared.element.Element.{Element}
use Rattle.record_text.specs.declared.exhibit.Exhibit.{Exhibit}
use Rattle.record_text.specs.declared.exhibit.Exhibit.TheVariants.{Clean, Strings, Multisets}
use Rattle.report_text.specs.Lines.{line_end}

-- nothing to show, over so many certified epochs
abbrev pub clean_line : ℕ → List ℕ
clean_line epochs = codes "clean " ++ decimal epochs ++ line_end

-- two texts with one digest, as lower-case digits: the one that was evicted, and the one that was added
abbrev pub strings_line : List ℕ → List ℕ → List ℕ
strings_line evicted added = codes "strings " ++ encode_lower evicted ++ codes " " ++ encode_lower added ++ line_end

-- the epoch whose elements come next
abbrev pub multisets_line : ℕ → List ℕ
multisets_line epoch = codes "multisets " ++ decimal epoch ++ line_end

-- a word, and the text of an element as lower-case digits
abbrev pub element_line : List ℕ → Element → List ℕ
element_line word element = word ++ encode_lower (element_text element) ++ line_end

-- an element that was added
abbrev pub added_line : Element → List ℕ
added_line = element_line (codes "added ")

-- an element that was evicted
abbrev pub evicted_line : Element → List ℕ
evicted_line = element_line (codes "evicted ")

-- the epoch, each element that was added in it, and each that was evicted
abbrev pub multisets_text : ℕ → List Element → List Element → List ℕ
multisets_text epoch added evicted = multisets_line epoch ++ flat_map added_line added ++ flat_map evicted_line evicted

-- what an audit of so many certified epochs writes
abbrev pub exhibit_text : ℕ → Exhibit → List ℕ
exhibit_text epochs Clean = clean_line epochs
exhibit_text epochs (Strings evicted added) = strings_line evicted added
exhibit_text epochs (Multisets epoch added evicted) = multisets_text epoch added evicted
