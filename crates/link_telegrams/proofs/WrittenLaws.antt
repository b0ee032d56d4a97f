-- What an end of the link writes, the end that it is for hears as what it is, and the end that wrote it does not hear: reading
-- what was written gives header and PDU back, and the two addresses differ. Read `opening_heard_lem`, `order_heard_lem`, `ok_heard_lem`,
-- `reply_heard_lem` and the laws `-shown` and `-echoed` beside them.
use Prim.Native.Nat.{ℕ, ◌≤◌}
use mathlib.Core.Bool.{true}
use mathlib.Core.List.{List, [], append-nil}
use mathlib.Core.Path.{◌≡◌, refl, sym, ◌∙◌, ap}
use lib.Dec.{eqb}
use lib.ListN.{length}
use borrow.Author.Tests.{le-leb, eq-eqb, ne_eqb}
use Rattle.ground.specs.Part.{shown_part}
use Rattle.codes.specs.declared.function_code.FunctionCode.{FunctionCode}
use Rattle.link_rules.specs.Rules.{longest, turned}
use Rattle.link_rules.specs.declared.link.Link.{Link}
use Rattle.link_telegrams.specs.Headers.{link_header, opening_header, order_header, ok_header, reply_header}
use Rattle.link_telegrams.specs.Heard.{data_from, no_data, data_to_of, request_to_of, request_heard_of, reply_heard_of}
use Rattle.link_telegrams.specs.declared.headers.Bit.{Bit}
use Rattle.link_telegrams.specs.declared.headers.Bit.TheVariants as bit
use Rattle.link_telegrams.specs.declared.heard.ReplyHeard.TheVariants as reply_heard
use Rattle.link_telegrams.specs.declared.heard.RequestHeard.TheVariants as request_heard
use Rattle.telegram.proofs.WrittenLaws.{read_after_write, pdu_after_write}
use Rattle.telegram.specs.Picture.{at_front, telegram_bytes}
use Rattle.telegram.specs.Reading.{whole, read_of}
use Rattle.telegram.specs.declared.header.DataTelegramHeader.{DataTelegramHeader}
use Rattle.telegram.specs.declared.kinds.Telegram.TheVariants.{Data}

-- Nothing follows a telegram that fills the bytes.
module _ (h : DataTelegramHeader) (pdu : List ℕ) (da : h.da.0 ≤ 127) (sa : h.sa.0 ≤ 127) where
  read_alone : read_of (telegram_bytes h pdu) ≡ whole (Data (at_front h pdu)) (length (telegram_bytes h pdu))
  read_alone = ap read_of (sym (append-nil (telegram_bytes h pdu))) ∙ read_after_write h pdu da sa []

  shown_alone : shown_part (at_front h pdu).pdu (telegram_bytes h pdu) ≡ pdu
  shown_alone = ap (shown_part (at_front h pdu).pdu) (sym (append-nil (telegram_bytes h pdu))) ∙ pdu_after_write h pdu da sa []

-- A telegram of an end of the link, at its peer, and at itself.
module _ (link : Link) (own_small : link.own.0 ≤ 127) (peer_small : link.peer.0 ≤ 127) where
  heard_there :
      (fc : FunctionCode) (pdu : List ℕ)
      → data_to_of link.peer (telegram_bytes (link_header link fc) pdu)
      ≡ data_from link.own fc (at_front (link_header link fc) pdu).pdu
  unfolding data_to_of
  heard_there fc pdu =
      rw (
        read_alone (link_header link fc) pdu peer_small own_small,
        eq-eqb _ _ (refl {a = length (telegram_bytes (link_header link fc) pdu)}),
        eq-eqb _ _ (refl {a = link.peer.0}),
      )

  not_heard_here :
      (link.own.0 ≡ link.peer.0 → ⊥) → (fc : FunctionCode) (pdu : List ℕ)
      → data_to_of link.own (telegram_bytes (link_header link fc) pdu) ≡ no_data
  unfolding data_to_of
  not_heard_here differ fc pdu =
      rw (
        read_alone (link_header link fc) pdu peer_small own_small,
        eq-eqb _ _ (refl {a = length (telegram_bytes (link_header link fc) pdu)}),
        ne_eqb link.peer.0 link.own.0 (λ e. differ (sym e)),
      )

  -- the sender is the peer that the hearer knows
  the_peer : eqb link.own.0 link.own.0 ≡ true
  the_peer = eq-eqb link.own.0 link.own.0 refl

  pub opening_heard_lem : request_heard_of (turned link) (telegram_bytes (opening_header link) []) ≡ request_heard.Opening
  unfolding request_heard_of request_to_of opening_header
  opening_heard_lem = rw (heard_there, the_peer)

  pub order_heard_lem :
      (b : Bit) (q : List ℕ)
      → request_heard_of (turned link) (telegram_bytes (order_header link b) q) ≡ request_heard.Order b (at_front (order_header link b) q).pdu
  unfolding request_heard_of request_to_of order_header
  order_heard_lem bit.Low q = rw (heard_there, the_peer)
  order_heard_lem bit.High q = rw (heard_there, the_peer)

  pub ok_heard_lem : reply_heard_of (turned link) (telegram_bytes (ok_header link) []) ≡ reply_heard.Ok
  unfolding reply_heard_of ok_header
  ok_heard_lem = rw (heard_there, the_peer)

  pub reply_heard_lem :
      (p : List ℕ) → length p ≤ longest
      → reply_heard_of (turned link) (telegram_bytes (reply_header link) p) ≡ reply_heard.Reply (at_front (reply_header link) p).pdu
  unfolding reply_heard_of reply_header
  reply_heard_lem p short = rw (heard_there, the_peer, le-leb _ _ short)

  pub order_shown_lem : (b : Bit) (q : List ℕ) → shown_part (at_front (order_header link b) q).pdu (telegram_bytes (order_header link b) q) ≡ q
  unfolding order_header
  order_shown_lem b q = shown_alone (order_header link b) q peer_small own_small

  pub reply_shown : (p : List ℕ) → shown_part (at_front (reply_header link) p).pdu (telegram_bytes (reply_header link) p) ≡ p
  unfolding reply_header
  reply_shown p = shown_alone (reply_header link) p peer_small own_small

  -- What an end wrote is nothing to itself.
  module _ (differ : link.own.0 ≡ link.peer.0 → ⊥) where
    pub opening_echoed_lem : reply_heard_of link (telegram_bytes (opening_header link) []) ≡ reply_heard.Nothing
    unfolding reply_heard_of opening_header
    opening_echoed_lem = rw (not_heard_here differ)

    pub order_echoed_lem : (b : Bit) (q : List ℕ) → reply_heard_of link (telegram_bytes (order_header link b) q) ≡ reply_heard.Nothing
    unfolding reply_heard_of order_header
    order_echoed_lem b q = rw (not_heard_here differ)

    pub ok_echoed_lem : request_heard_of link (telegram_bytes (ok_header link) []) ≡ request_heard.Nothing
    unfolding request_heard_of request_to_of ok_header
    ok_echoed_lem = rw (not_heard_here differ)

    pub reply_echoed_lem : (p : List ℕ) → request_heard_of link (telegram_bytes (reply_header link) p) ≡ request_heard.Nothing
    unfolding request_heard_of request_to_of reply_header
    reply_echoed_lem p = rw (not_heard_here differ)
