-- Which device texts are accepted, and the first refusal of the others.
--   most_device_bytes               the most bytes of a device text
--   IsDevice text d            the text describes the device d
--   Fits initial n size        the list of the qubits on which the wires begin, if one is given, fits n wires and a device of this size
--   IsDeviceRefusal text n initial r   r is the first refusal of the text for a program on n wires: its length, or else that it
--                              describes no device, or else that its device has fewer qubits, or else that the list doesn't fit
--   HasDevice content o initial n   where a device of a name is wanted, the shelf has its text, which describes one with n qubits at
--                              least, and the list fits
--   HasSource reads IsInput n   where a command reads the input, that is accepted, as a program on n wires; where it reads none,
--                              n is 0, as its program is drawn for the device
use Rattle.std.specs.Prelude.{◌≡◌, ℕ, ◌<◌, ◌≤◌, Bool, true, false, List, Option, Some, None, IfSome, length}
use Rattle.coupling_map.specs.Coupling.{Coupling, IsCoupling}
use Rattle.coupling_map.specs.Refusals.{IsDeviceFault}
use Rattle.coupling_map.specs.Text.{Says, graph}
use Rattle.gate_inline.specs.Programs.{IsAccepted, Program}
use Rattle.wire_starts.specs.Starts.{IsFitting}
use Rattle.qroute_top.specs.declared.stops.DeviceRefusal.{DeviceRefusal}
use Rattle.qroute_top.specs.declared.stops.DeviceRefusal.TheVariants as device

abbrev pub most_device_bytes : ℕ
most_device_bytes = 1048576

pub record IsDevice (text : List ℕ) (d : Coupling) : Type 0 where
  pub short : length text ≤ most_device_bytes
  pub says : Says text (graph d.size d.edges d.costs)
  pub coupling : IsCoupling d

abbrev pub Fits : Option (List ℕ) → ℕ → ℕ → Type 0
Fits initial n size = IfSome initial (IsFitting n size)

abbrev pub IsDeviceRefusal : List ℕ → ℕ → Option (List ℕ) → DeviceRefusal → Type 0
IsDeviceRefusal text n initial device.TooLong = most_device_bytes < length text
IsDeviceRefusal text n initial (device.Fault f) = (length text ≤ most_device_bytes) × IsDeviceFault text f
IsDeviceRefusal text n initial (device.TooFewQubits size qubits) =
    (d : Coupling) × IsDevice text d × (size ≡ d.size) × (qubits ≡ n) × (size < n)
IsDeviceRefusal text n initial (device.Initial size qubits) =
    (d : Coupling) × IsDevice text d × (size ≡ d.size) × (qubits ≡ n) × (n ≤ size) × (Fits initial n size → ⊥)

abbrev pub HasDevice : (List ℕ → Option (Option (List ℕ))) → Option (List ℕ) → Option (List ℕ) → ℕ → Type 0
HasDevice content None initial n = Unit {0}
HasDevice content (Some name) initial n =
    (text : List ℕ) × (d : Coupling) × (content name ≡ Some (Some text)) × IsDevice text d × (n ≤ d.size) × Fits initial n d.size

abbrev pub HasSource : Bool → (List ℕ → Type 0) → ℕ → Type 0
HasSource true IsInput n = (text : List ℕ) × (p : Program) × IsInput text × IsAccepted text p × (n ≡ p.wires)
HasSource false IsInput n = n ≡ 0
