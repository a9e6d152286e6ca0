-- The numbers of the questions of documents 01 (1 to 44) and 02 (45 to 58), by name: what is answered where the answer to the question is no.
-- 54 is asked between 16 and 17, so it belongs to every range of numbers that spans this place: 3 to 24, 17 to 24, 1 to 33.
-- `src/question.rt` has the same names in other case for code, and `number_of` says which is which; no two have one number (proofs/Numbers.antt). Assumes nothing.
use Rattle.std.specs.Prelude.{ℕ}
use Rattle.layout.specs.declared.question.Question.{Question}
use Rattle.layout.specs.declared.question.Question.TheVariants as question

-- entry 0 a device, and every later kind 1 to 3 and not below the one before
abbrev pub ORDER : ℕ
ORDER = 1

-- start + length within the run
abbrev pub BOUNDS : ℕ
BOUNDS = 2

-- version 3
abbrev pub VERSION : ℕ
VERSION = 3

-- field wholly in the row (a card's field in the card)
abbrev pub FIELD : ℕ
FIELD = 4

-- flag 0 or 1
abbrev pub FLAG : ℕ
FLAG = 5

-- role, mode, verification, dir or kind a listed code
abbrev pub CODE : ℕ
CODE = 6

-- caps bits 2 to 7 clear
abbrev pub CAPS : ℕ
CAPS = 7

-- name length at most 48
abbrev pub NAME_LENGTH : ℕ
NAME_LENGTH = 8

-- name UTF-8
abbrev pub NAME_UTF8 : ℕ
NAME_UTF8 = 9

-- card used up
abbrev pub CARD_END : ℕ
CARD_END = 10

-- copies 1 to 16 and lifetime 60 to 10,080
abbrev pub COURIER_CONFIG : ℕ
COURIER_CONFIG = 11

-- LEB128 minimal, at most 2^32 - 1
abbrev pub LEB128 : ℕ
LEB128 = 12

-- sealed length allowed
abbrev pub SEALED_LENGTH : ℕ
SEALED_LENGTH = 13

-- carried copies not 0
abbrev pub CARRIED_COPIES : ℕ
CARRIED_COPIES = 14

-- carried expiry not 0
abbrev pub CARRIED_EXPIRY : ℕ
CARRIED_EXPIRY = 15

-- nothing after the last field
abbrev pub ROW_END : ℕ
ROW_END = 16

-- at most one chain not superseded
abbrev pub CHAINS_CURRENT : ℕ
CHAINS_CURRENT = 17

-- chain gens distinct
abbrev pub CHAINS_GENS : ℕ
CHAINS_GENS = 18

-- skipped (gen, idx) distinct
abbrev pub SKIPPED_KEYS : ℕ
SKIPPED_KEYS = 19

-- at most 500 skipped
abbrev pub SKIPPED_COUNT : ℕ
SKIPPED_COUNT = 20

-- peer_acked at most sent_msgno
abbrev pub PEER_ACKED : ℕ
PEER_ACKED = 21

-- unacked strictly rising, from 1 to sent_msgno
abbrev pub UNACKED : ℕ
UNACKED = 22

-- above canonical from contiguous + 2
abbrev pub ABOVE : ℕ
ABOVE = 23

-- expired canonical from 1, none above sent_msgno
abbrev pub EXPIRED : ℕ
EXPIRED = 24

-- contact below next_contact
abbrev pub CONTACT_BELOW_NEXT : ℕ
CONTACT_BELOW_NEXT = 25

-- contact new
abbrev pub CONTACT_NEW : ℕ
CONTACT_NEW = 26

-- queued row's contact restored
abbrev pub QUEUED_CONTACT : ℕ
QUEUED_CONTACT = 27

-- its msgno 1 to sent_msgno
abbrev pub QUEUED_MSGNO : ℕ
QUEUED_MSGNO = 28

-- not in unacked
abbrev pub QUEUED_UNACKED : ℕ
QUEUED_UNACKED = 29

-- (contact, msgno) new
abbrev pub QUEUED_NEW : ℕ
QUEUED_NEW = 30

-- depositor below next_contact
abbrev pub DEPOSITOR : ℕ
DEPOSITOR = 31

-- slot new
abbrev pub SLOT_NEW : ℕ
SLOT_NEW = 32

-- slot below 2^64 - 1
abbrev pub SLOT_BELOW_LAST : ℕ
SLOT_BELOW_LAST = 33

-- store restored, contact open, and the store handed in passes
abbrev pub STORE : ℕ
STORE = 34

-- contact in the store
abbrev pub CONTACT_STORED : ℕ
CONTACT_STORED = 35

-- lists long enough, counts within them
abbrev pub LISTS : ℕ
LISTS = 36

-- 1 <= from <= to
abbrev pub RANGE : ℕ
RANGE = 37

-- the resulting ranges fit
abbrev pub RANGES_FIT : ℕ
RANGES_FIT = 38

-- sent_msgno below 2^32 - 1
abbrev pub MSGNO_LEFT : ℕ
MSGNO_LEFT = 39

-- output long enough
abbrev pub OUTPUT : ℕ
OUTPUT = 40

-- letter, field count and LF right
abbrev pub LINE : ℕ
LINE = 41

-- decimals without leading zeros, within width
abbrev pub DECIMAL : ℕ
DECIMAL = 42

-- blob of digit pairs
abbrev pub BLOB : ℕ
BLOB = 43

-- at most 61,440 blob bytes, 512 lines
abbrev pub SHEET_SIZE : ℕ
SHEET_SIZE = 44

-- the object's epoch and kind
abbrev pub OBJECT : ℕ
OBJECT = 45

-- chunk not empty, within the object; no count past it; progress at most what was sent
abbrev pub OBJECT_BOUNDS : ℕ
OBJECT_BOUNDS = 46

-- chunk continues or repeats what is stored
abbrev pub CHUNK_FIT : ℕ
CHUNK_FIT = 47

-- an S line with decimals within their widths
abbrev pub S_LINE : ℕ
S_LINE = 48

-- sum at most 2^64 - 1
abbrev pub SUM : ℕ
SUM = 49

-- peer_read at most sent_msgno
abbrev pub PEER_READ : ℕ
PEER_READ = 50

-- slot below a version 4 next_slot
abbrev pub SLOT_BELOW_NEXT : ℕ
SLOT_BELOW_NEXT = 51

-- next_slot not lost by a conversion back
abbrev pub SLOT_LOST : ℕ
SLOT_LOST = 52

-- bounds of the window in order
abbrev pub WINDOW : ℕ
WINDOW = 53

-- at most eight chains; asked before 17
abbrev pub CHAINS_COUNT : ℕ
CHAINS_COUNT = 54

-- the ticket's change count is the present one
abbrev pub TICKET : ℕ
TICKET = 55

-- change count below 2^64 - 1
abbrev pub CHANGES : ℕ
CHANGES = 56

-- the caller has the right to this call
abbrev pub RIGHTS : ℕ
RIGHTS = 57

-- a decimal from 0 to 12, and then LF
abbrev pub RECORDS : ℕ
RECORDS = 58

-- ---- the question that code names, by its number
abbrev pub number_of : Question → ℕ
number_of question.Order = ORDER
number_of question.Bounds = BOUNDS
number_of question.Version = VERSION
number_of question.Field = FIELD
number_of question.Flag = FLAG
number_of question.Code = CODE
number_of question.Caps = CAPS
number_of question.NameLength = NAME_LENGTH
number_of question.NameUtf8 = NAME_UTF8
number_of question.CardEnd = CARD_END
number_of question.CourierConfig = COURIER_CONFIG
number_of question.Leb128 = LEB128
number_of question.SealedLength = SEALED_LENGTH
number_of question.CarriedCopies = CARRIED_COPIES
number_of question.CarriedExpiry = CARRIED_EXPIRY
number_of question.RowEnd = ROW_END
number_of question.ChainsCurrent = CHAINS_CURRENT
number_of question.ChainsGens = CHAINS_GENS
number_of question.SkippedKeys = SKIPPED_KEYS
number_of question.SkippedCount = SKIPPED_COUNT
number_of question.PeerAcked = PEER_ACKED
number_of question.Unacked = UNACKED
number_of question.Above = ABOVE
number_of question.Expired = EXPIRED
number_of question.ContactBelowNext = CONTACT_BELOW_NEXT
number_of question.ContactNew = CONTACT_NEW
number_of question.QueuedContact = QUEUED_CONTACT
number_of question.QueuedMsgno = QUEUED_MSGNO
number_of question.QueuedUnacked = QUEUED_UNACKED
number_of question.QueuedNew = QUEUED_NEW
number_of question.Depositor = DEPOSITOR
number_of question.SlotNew = SLOT_NEW
number_of question.SlotBelowLast = SLOT_BELOW_LAST
number_of question.Store = STORE
number_of question.ContactStored = CONTACT_STORED
number_of question.Lists = LISTS
number_of question.Range = RANGE
number_of question.RangesFit = RANGES_FIT
number_of question.MsgnoLeft = MSGNO_LEFT
number_of question.Output = OUTPUT
number_of question.Line = LINE
number_of question.Decimal = DECIMAL
number_of question.Blob = BLOB
number_of question.SheetSize = SHEET_SIZE
number_of question.Object = OBJECT
number_of question.ObjectBounds = OBJECT_BOUNDS
number_of question.ChunkFit = CHUNK_FIT
number_of question.SLine = S_LINE
number_of question.Sum = SUM
number_of question.PeerRead = PEER_READ
number_of question.SlotBelowNext = SLOT_BELOW_NEXT
number_of question.SlotLost = SLOT_LOST
number_of question.Window = WINDOW
number_of question.ChainsCount = CHAINS_COUNT
number_of question.Ticket = TICKET
number_of question.Changes = CHANGES
number_of question.Rights = RIGHTS
number_of question.Records = RECORDS
