-- What a call asks for, and what is known of it after some of its words.
use Rattle.std.specs.Prelude.{ℕ, List, Option}
use Rattle.dns_model.specs.Names.{Labels}
use Rattle.dns_model.specs.Records.{Question}
use Rattle.dns_query_words.specs.declared.options.Setting.{Setting}
use Rattle.dns_query_words.specs.declared.options.Switches.{Switches}

-- a question, and how it is to be asked and answered
pub record ArgumentsValue : Type 0 where
  pub query : Question
  -- the text behind `@`
  pub server : Option (List ℕ)
  -- paths of files
  pub anchors : Option (List ℕ)
  pub save : Option (List ℕ)
  pub depth : Option ℕ
  -- seconds
  pub timeout : ℕ
  pub switches : Switches

-- what is known after some words
pub record DraftValue : Type 0 where
  pub name : Option Labels
  pub rtype : Option ℕ
  pub server : Option (List ℕ)
  pub anchors : Option (List ℕ)
  pub save : Option (List ℕ)
  pub depth : Option ℕ
  pub timeout : Option ℕ
  pub switches : Switches
  -- the option whose value is the next word
  pub awaits : Option Setting
