-- HMAC with SHA-256, in the words of RFC 2104: H is SHA-256, B is 64.
use Rattle.std.specs.Prelude.{ℕ, ◌-◌, List, ◌++◌, length, map, replicate, nat_lt, if◌then◌else◌, bit_xor}
use Rattle.sha2.specs.Sha256.{sha256}

-- how many bytes SHA-256 takes in at a time (RFC 2104, "B")
abbrev pub block_len : ℕ
block_len = 64

-- zeros at the end, up to the length of a block
abbrev pub zero_filled : List ℕ → List ℕ
zero_filled bytes = bytes ++ replicate (block_len - length bytes) 0

-- the key as one block: a key longer than a block is hashed first (RFC 2104, "K")
abbrev pub key_block : List ℕ → List ℕ
key_block key = zero_filled (if nat_lt block_len (length key) then sha256 key else key)

-- K XOR ipad
abbrev pub inner_key : List ℕ → List ℕ
inner_key block = map (λ byte. bit_xor byte 0x36) block

-- K XOR opad
abbrev pub outer_key : List ℕ → List ℕ
outer_key block = map (λ byte. bit_xor byte 0x5c) block

-- H(K XOR opad, H(K XOR ipad, text)), for a key that is one block
abbrev pub hmac_of_block : List ℕ → List ℕ → List ℕ
hmac_of_block block text = sha256 (outer_key block ++ sha256 (inner_key block ++ text))

-- HMAC-SHA-256 of a text under a key of any length
abbrev pub hmac_sha256 : List ℕ → List ℕ → List ℕ
hmac_sha256 key text = hmac_of_block (key_block key) text
