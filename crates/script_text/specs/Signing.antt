-- What a client signs: lines of requests, each with a number, and the lines that they are once they are signed.
use Rattle.std.specs.Prelude.{ℕ, ◌+◌, ◌^◌, nat_lt, Bool, List, [], ◌∷◌, ◌++◌, length, Option, Some, None, Result, Ok, Err, codes, if◌then◌else◌}
use Rattle.std.specs.Fmt.{decimal}
use Rattle.std.specs.List.{flat_map}
use Rattle.hex.specs.Hex.{encode_lower}
use Rattle.base_words.specs.Steps.{need, and_then}
use Rattle.record_hash.specs.Functions.{DigestFunctions}
use Rattle.record_text.specs.declared.cause.Cause.{Cause}
use Rattle.record_text.specs.declared.cause.Cause.TheVariants.{Shape, Number}
use Rattle.record_text.specs.declared.request.Request.{Request}
use Rattle.record_text.specs.Longest.{longest_blob}
use Rattle.client_requests.specs.Texts.{request_tag}
use Rattle.script_text.specs.declared.signing.Numbered.{Numbered}
use Rattle.script_text.specs.Lines.{lines_of, words_of}
use Rattle.script_text.specs.Words.{number_in, below}
use Rattle.script_text.specs.Script.{Asked, asked_by, request_then, BadLine, at_line}
use Rattle.script_text.specs.Text.{request_words}

-- the most bytes of a line that is to be signed or was, without its end
abbrev pub longest_signed_line : ℕ
longest_signed_line = 768

-- a number that is above another
abbrev pub above : ℕ → Option ℕ → Option ℕ
above last None = None
above last (Some number) = if nat_lt last number then Some number else None

-- the number of a request behind one of this number: of 64 bits, and above it
abbrev pub number_behind : ℕ → List ℕ → Option ℕ
number_behind last word = above last (below (2 ^ 64) (number_in word))

-- a request with its number, tested in this order
abbrev pub numbered_by : Bool → ℕ → List ℕ → Asked → Result Numbered Cause
numbered_by wide last number asked =
    need (number_behind last number) Number (λ n. request_then wide asked (λ request. Ok (record { number = n; request = request })))

-- what the words of a line ask that is to be signed: a number, and behind it a request
unfoldable pub numbered_words : Bool → ℕ → List (List ℕ) → Result Numbered Cause
numbered_words wide last [] = Err Shape
numbered_words wide last (number ∷ words) = need (asked_by longest_blob words) Shape (numbered_by wide last number)

-- What a line asks behind a request of this number, or the first cause for which it is refused.
unfoldable pub numbered_line : Bool → ℕ → List ℕ → Result Numbered Cause
numbered_line wide last line =
    if nat_lt longest_signed_line (length line) then Err Shape else numbered_words wide last (words_of line)

-- what lines ask, the first of which has this number in its text, or the first of them that is refused
unfoldable pub numbered_lines : Bool → ℕ → ℕ → List (List ℕ) → Result (List Numbered) BadLine
numbered_lines wide last number [] = Ok []
numbered_lines wide last number (line ∷ lines) =
    and_then (at_line number (numbered_line wide last line)) (λ first.
    and_then (numbered_lines wide first.number (number + 1) lines) (λ more.
    Ok (first ∷ more)))

-- the line of a request that is signed: the client, the number, the tag as digits, and what is asked
abbrev pub signed_line : DigestFunctions → Bool → ℕ → Numbered → List ℕ
signed_line functions wide client one =
    decimal client ++ codes " " ++ decimal one.number ++ codes " " ++ encode_lower (request_tag functions wide client one.number one.request)
    ++ request_words one.request.put one.request.key one.request.value ++ codes "\n"

-- The lines that bytes are once a client signed them, or the first of them that is refused, counted from 1.
abbrev pub signed_text : DigestFunctions → Bool → ℕ → List ℕ → Result (List ℕ) BadLine
signed_text functions wide client bytes =
    and_then (numbered_lines wide 0 1 (lines_of bytes)) (λ requests. Ok (flat_map (signed_line functions wide client) requests))
