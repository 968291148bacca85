use Rattle.std.specs.Prelude.{ℕ, ◌+◌, ◌*◌, ◌/◌, ◌%◌, List, [], ◌∷◌, bit_xor}

-- the plain byte of the cipher byte c at a key: the key's high byte was laid over it
abbrev pub plain_of : ℕ → ℕ → ℕ
plain_of key c = bit_xor c (key / 256)

-- the key behind the cipher byte c
abbrev pub key_after : ℕ → ℕ → ℕ
key_after key c = ((c + key) * 52845 + 22719) % 65536

-- the key behind some cipher bytes
abbrev pub keys_after : ℕ → List ℕ → ℕ
keys_after key [] = key
keys_after key (c ∷ cs) = keys_after (key_after key c) cs

-- the cipher byte of the plain byte p at a key
abbrev pub cipher_of : ℕ → ℕ → ℕ
cipher_of key p = bit_xor p (key / 256)

-- plain bytes enciphered from a key on
abbrev pub enciphered : ℕ → List ℕ → List ℕ
enciphered key [] = []
enciphered key (p ∷ ps) = cipher_of key p ∷ enciphered (key_after key (cipher_of key p)) ps
