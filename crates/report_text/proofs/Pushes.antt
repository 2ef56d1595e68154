-- Texts that are added one after another are the text that they make together.
use Rattle.std.proofs.Common.{◌≡◌, ℕ, List, ◌++◌, append_assoc, ◌∙◌, ap}

pub two_pushes : (old one two mid new : List ℕ) → mid ≡ old ++ one → new ≡ mid ++ two → new ≡ old ++ (one ++ two)
two_pushes old one two mid new first second = second ∙ (ap (λ (text : List ℕ). text ++ two) first ∙ append_assoc old one two)

pub three_pushes : (old one two three first second new : List ℕ) → first ≡ old ++ one → second ≡ first ++ two → new ≡ second ++ three → new ≡ old ++ (one ++ two ++ three)
three_pushes old one two three first second new a b c =
    two_pushes old (one ++ two) three second new (two_pushes old one two first second a b) c

pub four_pushes : (old one two three four first second third new : List ℕ) → first ≡ old ++ one → second ≡ first ++ two → third ≡ second ++ three → new ≡ third ++ four
    → new ≡ old ++ (one ++ two ++ three ++ four)
four_pushes old one two three four first second third new a b c d =
    two_pushes old (one ++ two ++ three) four third new (three_pushes old one two three first second third a b c) d
