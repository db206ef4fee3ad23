use Rattle.dns_evidence.specs.Link.{link_value}
use Rattle.dns_query_json.specs.AnswerJson.{link_object}
use Rattle.dns_query_json.proofs.ListLemmas.{listed_as_seen}
use Rattle.dns_query_json.proofs.chains.push_links.Goals as goal

pub returns : goal.returns
returns c = rw (← listed_as_seen link_object link_value c.args.links.now) c.push_list.ensures
