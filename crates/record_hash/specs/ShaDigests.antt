-- What `ShaDigests` computes. A contract sees the value as its key block.
use Rattle.std.specs.Prelude.{ℕ, ◌+◌, List, [], ◌∷◌, slice_index}
use Rattle.std.specs.Int.{w32, from_be_bytes, to_be_bytes}
use Rattle.sha2.specs.Sha256.{sha256}
use Rattle.lane_sha.specs.Hmac.{key_block, hmac_of_block, hmac_sha256}
use Rattle.record_hash.specs.Functions.{DigestFunctions}

-- the digest of a text: SHA-256 (FIPS 180-4), under no key
abbrev pub sha_text_digest : List ℕ → List ℕ
sha_text_digest bytes = sha256 bytes

-- the word at byte i: four bytes, high byte first
abbrev pub word_at : List ℕ → ℕ → ℕ
word_at bytes i = from_be_bytes w32
    (slice_index bytes i ∷ slice_index bytes (i + 1) ∷ slice_index bytes (i + 2) ∷ slice_index bytes (i + 3) ∷ [])

-- 32 bytes as eight words
abbrev pub words_of : List ℕ → List ℕ
words_of bytes =
    word_at bytes 0 ∷ word_at bytes 4 ∷ word_at bytes 8 ∷ word_at bytes 12
    ∷ word_at bytes 16 ∷ word_at bytes 20 ∷ word_at bytes 24 ∷ word_at bytes 28 ∷ []

-- the lanes of an element: the words of the HMAC of the byte 1 and its text
abbrev pub sha_element_lanes : List ℕ → List ℕ → List ℕ
sha_element_lanes block bytes = words_of (hmac_of_block block (1 ∷ bytes))

-- the tag of a text: the HMAC of the byte 2 and the text
abbrev pub sha_tag : List ℕ → List ℕ → List ℕ
sha_tag block bytes = hmac_of_block block (2 ∷ bytes)

-- the key of a client: the HMAC of the byte 3 and its number, so that who has it can't tell any other key
abbrev pub sha_client_key : List ℕ → ℕ → List ℕ
sha_client_key block client = hmac_of_block block (3 ∷ to_be_bytes w32 client)

-- the tag of a text under the key of a client
abbrev pub sha_client_tag : List ℕ → ℕ → List ℕ → List ℕ
sha_client_tag block client bytes = hmac_sha256 (sha_client_key block client) bytes

-- the functions under a key that is one block
abbrev pub sha_functions : List ℕ → DigestFunctions
sha_functions block = record {
  digest = sha_text_digest;
  lanes = sha_element_lanes block;
  tag = sha_tag block;
  client_tag = sha_client_tag block;
}

-- the functions under a key of any length
abbrev pub sha_under : List ℕ → DigestFunctions
sha_under key = sha_functions (key_block key)
