-- For private functions of this crate only: what the words of a line come to.
use Rattle.std.specs.Prelude.{ℕ, List, Option, Some}
use Rattle.dns_model.specs.OptionSteps.{◌>>=◌}
use Rattle.dns_model.specs.Keys.{AnchorValue, AcceptedSignatureValue}
use Rattle.dns_text.specs.Words.{name_word_in, decimal_in, octets_in}

-- an accepted signature, by its words
abbrev pub accept_in : List ℕ → List ℕ → List ℕ → List ℕ → Option AcceptedSignatureValue
accept_in number key bytes signature = do
  algorithm ← decimal_in 255 number
  key ← octets_in key
  bytes ← octets_in bytes
  signature ← octets_in signature
  Some (record { algorithm = algorithm; key = key; bytes = bytes; signature = signature })

-- a trusted key, by its words
abbrev pub anchor_in : List ℕ → List ℕ → List ℕ → Option AnchorValue
anchor_in name number key = do
  owner ← name_word_in name
  algorithm ← decimal_in 255 number
  key ← octets_in key
  Some (record { owner = owner; algorithm = algorithm; key = key })
