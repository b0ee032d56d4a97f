-- No second outcome fits the promise of any public call of the libraries: its promise determines result, record and every lent byte, in
-- refused calls too. Each crate shows it of its own calls, in proofs/Determined.antt; here they stand together.
use Rattle.codes.proofs.Determined as codes
use Rattle.diagnostics.proofs.Determined as diagnostics
use Rattle.diagnostics_blocks.proofs.Determined as diagnostics_blocks
use Rattle.exports_diagnostics.proofs.Determined as exports_diagnostics
use Rattle.exports_guarded.proofs.Determined as exports_guarded
use Rattle.exports_link.proofs.Determined as exports_link
use Rattle.exports_settings.proofs.Determined as exports_settings
use Rattle.exports_stations.proofs.Determined as exports_stations
use Rattle.exports_strict.proofs.Determined as exports_strict
use Rattle.exports_telegrams.proofs.Determined as exports_telegrams
use Rattle.ground.proofs.Determined as ground
use Rattle.guards.proofs.Determined as guards
use Rattle.initiator.proofs.Determined as initiator
use Rattle.link_numbers.proofs.Determined as link_numbers
use Rattle.link_rules.proofs.Determined as link_rules
use Rattle.link_telegrams.proofs.Determined as link_telegrams
use Rattle.listing.proofs.Determined as listing
use Rattle.listing_lines.proofs.Determined as listing_lines
use Rattle.responder.proofs.Determined as responder
use Rattle.responder_row.proofs.Determined as responder_row
use Rattle.ring_driver.proofs.Determined as ring_driver
use Rattle.settings.proofs.Determined as settings
use Rattle.telegram.proofs.Determined as telegram
use Rattle.telegram_bytes.proofs.Determined as telegram_bytes
use Rattle.telegram_strict.proofs.Determined as telegram_strict
use Rattle.telegram_tx.proofs.Determined as telegram_tx
use Rattle.text.proofs.Determined as text
use Rattle.token_ring.proofs.Determined as token_ring

pub record EveryCall : Type 2 where
  pub ground : ground.Calls
  pub codes : codes.Calls
  pub telegram : telegram.Calls
  pub telegram_bytes : telegram_bytes.Calls
  pub telegram_strict : telegram_strict.Calls
  pub telegram_tx : telegram_tx.Calls
  pub token_ring : token_ring.Calls
  pub ring_driver : ring_driver.Calls
  pub diagnostics_blocks : diagnostics_blocks.Calls
  pub diagnostics : diagnostics.Calls
  pub text : text.Calls
  pub settings : settings.Calls
  pub listing_lines : listing_lines.Calls
  pub listing : listing.Calls
  pub link_rules : link_rules.Calls
  pub link_telegrams : link_telegrams.Calls
  pub initiator : initiator.Calls
  pub responder_row : responder_row.Calls
  pub responder : responder.Calls
  pub exports_telegrams : exports_telegrams.Calls
  pub exports_strict : exports_strict.Calls
  pub exports_stations : exports_stations.Calls
  pub exports_diagnostics : exports_diagnostics.Calls
  pub exports_settings : exports_settings.Calls
  pub link_numbers : link_numbers.Calls
  pub exports_link : exports_link.Calls
  pub guards : guards.Calls
  pub exports_guarded : exports_guarded.Calls

pub every_call : EveryCall
every_call =
    record {
      ground = ground.determined;
      codes = codes.determined;
      telegram = telegram.determined;
      telegram_bytes = telegram_bytes.determined;
      telegram_strict = telegram_strict.determined;
      telegram_tx = telegram_tx.determined;
      token_ring = token_ring.determined;
      ring_driver = ring_driver.determined;
      diagnostics_blocks = diagnostics_blocks.determined;
      diagnostics = diagnostics.determined;
      text = text.determined;
      settings = settings.determined;
      listing_lines = listing_lines.determined;
      listing = listing.determined;
      link_rules = link_rules.determined;
      link_telegrams = link_telegrams.determined;
      initiator = initiator.determined;
      responder_row = responder_row.determined;
      responder = responder.determined;
      exports_telegrams = exports_telegrams.determined;
      exports_strict = exports_strict.determined;
      exports_stations = exports_stations.determined;
      exports_diagnostics = exports_diagnostics.determined;
      exports_settings = exports_settings.determined;
      link_numbers = link_numbers.determined;
      exports_link = exports_link.determined;
      guards = guards.determined;
      exports_guarded = exports_guarded.determined;
    }
